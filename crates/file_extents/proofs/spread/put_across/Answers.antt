use Rattle.std.proofs.Common.{ℕ, arith, length, length-take, length-drop, ◌+◌, ◌-◌, ◌%◌}
use Rattle.call_types.specs.Stored.{span_bytes}
use Rattle.file_extents.specs.ChunkTable.{chunk_at}
use Rattle.file_extents.proofs.Places.{two_parts, behind_all}
use Rattle.file_extents.proofs.Rooms.{room_goes}
use Rattle.file_extents.proofs.spread.put_across.Goals as goal

pub put_within-requires-2-clause-some : goal.put_within-requires-2-clause-some
put_within-requires-2-clause-some c = rw c.cut-2.ensures (omega (arith, length-take {A = ℕ}, length-drop {A = ℕ}))

pub put_within-requires-2-clause-within : goal.put_within-requires-2-clause-within
put_within-requires-2-clause-within c = rw c.cut-2.ensures (omega (arith, length-take {A = ℕ}, length-drop {A = ℕ}))

pub put_within-requires-2-clause-room : goal.put_within-requires-2-clause-room
put_within-requires-2-clause-room c =
    room_goes c.args.table.now c.put_within.new.table c.args.start (length (span_bytes c.args.new)) (c.args.start + (65536 - c.args.start % 65536))
    (length (span_bytes c.cut-2.result)) c.requires.room c.put_within.ensures.room (omega arith)
    (rw c.cut-2.ensures (omega (arith, length-take {A = ℕ}, length-drop {A = ℕ})))

pub returns : goal.returns
returns c =
    two_parts c.args.start (65536 - c.args.start % 65536) (span_bytes c.args.new) (chunk_at c.args.table.now) (chunk_at c.put_within.new.table)
    (chunk_at c.put_within-2.new.table) (omega arith)
    (rw c.cut.ensures at c.put_within.ensures)
    (rw (c.cut-2.ensures, behind_all (65536 - c.args.start % 65536) (span_bytes c.args.new) c.requires.few) at c.put_within-2.ensures)
