use Rattle.std.proofs.Common.{◌≡◌, ◌<◌, ◌+◌, ◌/◌, ◌∙◌, [], length, arith}
use Rattle.std.proofs.lemmas.List.{get_or_default}
use Rattle.call_types.specs.Stored.{span_bytes}
use Rattle.file_extents.specs.ChunkTable.{row_in}
use Rattle.file_extents.proofs.Tiers.{edited_rows, row_there}
use Rattle.file_extents.proofs.shelf.Shelf.write.Goals as goal

pub returns : goal.returns
returns c =
    let rows = c.self.inside.rows.items in
    let there : c.args.place / 256 < length rows = row_there rows c.args.place c.args.start (c.args.start + length (span_bytes c.args.new))
    (rw (← c.self.view_is) at c.requires.room) (omega arith) in
    let same : c.index_mut.result.now ≡ row_in rows (c.args.place / 256) = c.index_mut.ensures.value ∙
    get_or_default rows (c.args.place / 256) c.index_mut.result.now [] there in
    rw (← c.self.view_is) (edited_rows rows c.args.place c.write.new.self c.args.start (span_bytes c.args.new) there (rw same at c.write.ensures))
