use Rattle.std.proofs.Common.{arith, [], ◌∙◌}
use Rattle.std.proofs.lemmas.Option.{IfSome_then}
use Rattle.file_extents.specs.ChunkTable.{chunk_at}
use Rattle.file_extents.proofs.Places.{length_contents, read_is, none_past}
use Rattle.file_extents.proofs.extents.Extents.stored.Goals as goal

pub returns-then-start-self-clause-bytes : goal.returns-then-start-self-clause-bytes
returns-then-start-self-clause-bytes c = rw (← c.self.view_is) (none_past (chunk_at c.self.inside.table) c.self.inside.len c.args.start c.args.count []
    (omega arith))

pub returns-then-start-self-clause-within : goal.returns-then-start-self-clause-within
returns-then-start-self-clause-within c = rw (← c.self.view_is)
    (omega (arith, c.self.invariant.0, length_contents c.self.inside.len (chunk_at c.self.inside.table)))

pub returns-clause-bytes : goal.returns-clause-bytes
returns-clause-bytes c =
    rw (← c.self.view_is) (IfSome_then c.stored.result c.stored.ensures
    (λ bytes is. is ∙ read_is (chunk_at c.self.inside.table) c.self.inside.len c.args.start c.args.count c.args.start c.min.result (omega arith) (omega arith)))

pub returns-clause-within : goal.returns-clause-within
returns-clause-within c = rw (← c.self.view_is) (omega (arith, c.self.invariant.0, length_contents c.self.inside.len (chunk_at c.self.inside.table)))
