use Rattle.std.proofs.Common.{arith, ◌+◌, ◌-◌, ◌%◌}
use Rattle.std.proofs.lemmas.Result.{on_ok_weaker}
use Rattle.file_extents.specs.Proved.Contents.{HasRoom}
use Rattle.file_extents.specs.ChunkTable.{chunk_at}
use Rattle.file_extents.proofs.Rows.{kept_both}
use Rattle.file_extents.proofs.Rooms.{room_joined, room_goes}
use Rattle.file_extents.proofs.spread.reserve_across.Goals as goal

pub returns-clause-kept : goal.returns-clause-kept
returns-clause-kept c =
    kept_both (chunk_at c.args.table.now) (chunk_at c.reserve_within.new.table) (chunk_at c.reserve_within-2.new.table) c.in_ok-reserve_within.ensures.kept
    c.reserve_within-2.ensures.kept

pub returns-clause-room : goal.returns-clause-room
returns-clause-room c =
    let here = 65536 - c.args.start % 65536 in
    let first : HasRoom c.reserve_within-2.new.table c.args.start here =
    room_goes c.reserve_within.new.table c.reserve_within-2.new.table c.args.start here c.args.start here c.in_ok-reserve_within.ensures.room
    c.reserve_within-2.ensures.kept.room (omega arith) (omega arith) in
    on_ok_weaker c.reserve_within-2.result (room_joined c.reserve_within-2.new.table c.args.start here c.args.count (omega arith) first)
    c.reserve_within-2.ensures.room

pub returns-clause-succeeds : goal.returns-clause-succeeds
returns-clause-succeeds c = λ has.
    c.reserve_within-2.ensures.succeeds
    (room_goes c.args.table.now c.reserve_within.new.table c.args.start c.args.count (c.args.start + (65536 - c.args.start % 65536))
    (c.args.count - (65536 - c.args.start % 65536)) has c.in_ok-reserve_within.ensures.kept.room (omega arith) (omega arith))
