use Rattle.std.proofs.Common.{arith, append_assoc, refl, ◌-◌, ◌%◌}
use Rattle.file_extents.specs.ChunkTable.{chunk_at}
use Rattle.file_extents.proofs.Places.{bytes_joined}
use Rattle.file_extents.proofs.spread.append.Goals as goal

pub returns-clause-items : goal.returns-clause-items
returns-clause-items c = rw (
  c.append_within-3.ensures.items,
  c.append_within-2.ensures.items,
  append_assoc,
  bytes_joined (chunk_at c.args.table.now) c.args.start (65536 - c.args.start % 65536) c.args.count (omega arith),
) refl
