use Rattle.std.proofs.Common.{◌≡◌, ◌<◌, ◌+◌, ◌∙◌, length, arith}
use Rattle.std.proofs.lemmas.List.{get_or_default}
use Rattle.call_types.specs.Stored.{span_bytes}
use Rattle.file_extents.specs.ChunkTable.{no_chunk, chunk_in}
use Rattle.file_extents.proofs.Rows.{edited_row, column_there}
use Rattle.file_extents.proofs.row.Row.write.Goals as goal

pub returns : goal.returns
returns c =
    let row = c.self.inside.chunks.items in
    let there : c.args.column < length row = column_there row c.args.column c.args.start (c.args.start + length (span_bytes c.args.new))
    (rw (← c.self.view_is) at c.requires.room) (omega arith) in
    let same : c.index_mut.result.now ≡ chunk_in row c.args.column = c.index_mut.ensures.value ∙
    get_or_default row c.args.column c.index_mut.result.now no_chunk there in
    rw (← c.self.view_is) (edited_row row c.args.column c.write.new.self c.args.start (span_bytes c.args.new) there (rw same at c.write.ensures.bytes)
    (rw same at c.write.ensures.kept))
