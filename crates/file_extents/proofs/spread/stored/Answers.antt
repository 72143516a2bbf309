use Rattle.std.proofs.Common.{arith, ◌∙◌}
use Rattle.std.proofs.lemmas.Option.{IfSome_then}
use Rattle.file_extents.specs.ChunkTable.{chunk_at}
use Rattle.file_extents.proofs.Places.{window_is}
use Rattle.file_extents.proofs.spread.stored.Goals as goal

pub returns : goal.returns
returns c = IfSome_then c.stored.result c.stored.ensures (λ bytes is. is ∙ window_is (chunk_at c.args.table.now) c.args.start c.args.count (omega arith))
