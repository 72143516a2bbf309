use Rattle.script_text.proofs.Rooms.{slice_room, same_room}
use Rattle.script_text.proofs.payload.room_of_data.Goals as goal

pub returns-in-Slice-clause-enough : goal.returns-in-Slice-clause-enough
returns-in-Slice-clause-enough c = rw c.in-Slice.is (slice_room c.in-Slice.bytes.now (rw c.in-Slice.is at c.requires))

pub returns-in-Same-clause-enough : goal.returns-in-Same-clause-enough
returns-in-Same-clause-enough c = rw c.in-Same.is (same_room c.in-Same.count c.in-Same.byte (rw c.in-Same.is at c.requires))
