use Rattle.std.proofs.Common.{arith}
use Rattle.call_types.specs.Stored.{span_bytes}
use Rattle.file_extents.specs.ChunkTable.{chunk_at}
use Rattle.file_extents.proofs.Places.{spliced, spliced_zero}
use Rattle.file_extents.proofs.extents.Extents.write_at.Goals as goal

pub invariant_of-self : goal.invariant_of-self
invariant_of-self c = (
  omega (arith, c.self.invariant.0),
  spliced_zero c.self.inside.len c.max-self-inside.result c.args.start (span_bytes c.args.new) (chunk_at c.self.inside.table)
      (chunk_at c.put.new.table) c.self.invariant.1 c.put.ensures (omega arith) (omega arith),
)

pub returns-clause-bytes : goal.returns-clause-bytes
returns-clause-bytes c =
    rw (← c.self.view_is) (spliced c.self.inside.len c.max-self-inside.result c.args.start (span_bytes c.args.new) (chunk_at c.self.inside.table)
    (chunk_at c.put.new.table) c.self.invariant.1 c.put.ensures (omega arith))
