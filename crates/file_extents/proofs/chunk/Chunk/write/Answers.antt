use Rattle.call_types.specs.Stored.{span_bytes}
use Rattle.file_extents.proofs.Pieces.{stored_splice}
use Rattle.file_extents.proofs.chunk.Chunk.write.Goals as goal

pub returns-clause-bytes : goal.returns-clause-bytes
returns-clause-bytes c =
    rw (← c.self.view_is, c.overwrite.ensures.items, c.pad.ensures.items)
    (stored_splice c.self.inside.low c.args.start c.self.inside.stored.items (span_bytes c.args.new) (rw (← c.self.view_is) at c.requires.low))
