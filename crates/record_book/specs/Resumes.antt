-- What a resume gives (own).
use Rattle.std.specs.Prelude.{◌≡◌, true, false}
use Rattle.call_types.specs.declared.act.Act.TheVariants as act
use Rattle.record_book.specs.Seat.{SeatState}
use Rattle.record_book.specs.Book.{BookState, Records}
use Rattle.record_book.specs.Refusals.{is_ready_in}
use Rattle.record_book.specs.declared.calling.Resumed.{Resumed}
use Rattle.record_book.specs.declared.calling.Resumed.TheVariants.{Recorded, Still}

-- either the seat's process waits in a call that is ready, the resume is recorded, and the seat has its receipt; or the process
-- waits in no call that is ready, and nothing changes
abbrev pub Resumes : BookState → BookState → SeatState → SeatState → Resumed → Type 0
Resumes old new s t (Recorded receipt) = (is_ready_in old s.pid ≡ true) × Records old new s t act.Resume receipt
Resumes old new s t Still = (is_ready_in old s.pid ≡ false) × (new ≡ old) × (t ≡ s)
