use Rattle.std.proofs.Common.{◌≡◌, ◌<◌, ◌+◌, ◌/◌, ◌∙◌, [], length, arith}
use Rattle.std.proofs.lemmas.List.{get_or_default}
use Rattle.call_types.specs.Stored.{span_bytes}
use Rattle.file_extents.specs.ChunkTable.{shelf_in}
use Rattle.file_extents.proofs.Tiers.{edited_shelves, shelf_there}
use Rattle.file_extents.proofs.table.write_in.Goals as goal

pub returns : goal.returns
returns c =
    let shelves = c.args.shelves.now.items in
    let there : c.args.number / 65536 < length shelves = shelf_there shelves c.args.number c.args.start (c.args.start + length (span_bytes c.args.new))
    c.requires.room (omega arith) in
    let same : c.index_mut.result.now ≡ shelf_in shelves (c.args.number / 65536) = c.index_mut.ensures.value ∙
    get_or_default shelves (c.args.number / 65536) c.index_mut.result.now [] there in
    edited_shelves shelves c.args.number c.write.new.self c.args.start (span_bytes c.args.new) there (rw same at c.write.ensures)
