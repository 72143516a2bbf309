use Rattle.call_types.specs.Stored.{span_bytes}
use Rattle.file_extents.specs.ChunkTable.{chunk_at}
use Rattle.file_extents.proofs.Places.{edit_is_over}
use Rattle.file_extents.proofs.spread.put_within.Goals as goal

pub returns : goal.returns
returns c = edit_is_over c.args.start (span_bytes c.args.new) (chunk_at c.args.table.now) (chunk_at c.write.new.self) c.requires.within c.write.ensures
