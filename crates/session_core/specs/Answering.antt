-- What the requests of a ring come to, answered in one thread while another sends them (own).
use Rattle.std.specs.Prelude.{◌≡◌, ℕ, Bool, true, List, [], Option, None, Some}
use Rattle.std.specs.Io.KnownBytes.{Appends}
use Rattle.rtrb.specs.Ring.{received}
use Rattle.call_types.specs.declared.request.Request.{Request}
use Rattle.logged_streams.specs.Streams.{LoggedWriterState}
use Rattle.record_book.specs.Seat.{SeatState}
use Rattle.system_lock.specs.declared.kernel.Why.{Why}
use Rattle.system_lock.specs.declared.kernel.Why.TheVariants as ended_why
use Rattle.session_core.specs.Answers.{answers_text, receipts_of}
use Rattle.session_core.specs.Refusals.{AreSaid, RefusalSaid}
use Rattle.session_core.specs.Said.{EndSaid, SaidEnded}
use Rattle.session_core.specs.Served.{AreTaken, ComesBy, EndsAt, HasExited, IsGranted}
use Rattle.session_core.specs.Talk.{IsCut, Talked}
use Rattle.session_core.specs.declared.answer.AnsweredSeat.{AnsweredSeat as SeatOf}
use Rattle.session_core.specs.declared.answer.AnsweredSeat.TheVariants as seat
use Rattle.session_core.specs.declared.end.End.{End}
use Rattle.session_core.specs.declared.told.Told.{Told}
use Rattle.std.specs.declared.alloc.Global.{Global}
use Rattle.rtrb.specs.declared.AnyItems.{AnyItems}
use Rattle.rtrb.specs.declared.consumer.Consumer.{Consumer}
use Rattle.system_lock.specs.Kernel.{Says}

-- what a session holds of its run, seen as what its seat holds
abbrev pub AnsweredSeat : Type 0
AnsweredSeat = SeatOf SeatState SeatState (Unit {0})

-- the end of a ring that gives requests
abbrev pub TakingEnd : Type 0
TakingEnd = Consumer Request Global AnyItems

-- what was answered: the seat, the answers, the end, if there is one of its own, the ring and the writer
pub record AnsweredState : Type 0 where
  pub seat_is : AnsweredSeat
  pub answers : List Told
  pub end_is : Option End
  pub ring : TakingEnd
  pub writer : LoggedWriterState

-- the spent seat, if there is one
abbrev pub spent_of : AnsweredSeat → Option SeatState
spent_of (seat.None admission) = None
spent_of (seat.Live live) = None
spent_of (seat.Spent spent) = Some spent

-- each request that was taken is answered to its end, but for a last one that waits and that the kernel gave up
abbrev pub AnswersTaken : (SeatState → SeatState → Why → Type 0) → List Request → List Told → AnsweredSeat → Type 0
AnswersTaken ended taken answers (seat.None admission) = (taken ≡ []) × (answers ≡ [])
AnswersTaken ended taken answers (seat.Live live) = Talked taken answers × (live.receipts ≡ receipts_of answers) × IsGranted live.receipts
AnswersTaken ended taken answers (seat.Spent spent) = HasExited spent answers × IsCut taken answers None × SaidEnded ended spent ended_why.Lost

-- it ends at one of the requests that were taken, and is left
abbrev pub ComesToEnd : Option (List ℕ) → List Request → AnsweredState → End → Type 0
ComesToEnd base taken s found = ComesBy (AreTaken taken) (EndsAt (AreTaken taken)) base s.writer (spent_of s.seat_is) s.answers found

-- without an end of its own all that was taken is answered, but for a last call that is given up, and all answers are written after what the writer held
abbrev pub HasAnswered : Says → Option (List ℕ) → List Request → AnsweredState → Option End → Type 0
HasAnswered says base taken s None = AnswersTaken says.ended taken s.answers s.seat_is × Appends base s.writer.contents (answers_text s.answers)
HasAnswered says base taken s (Some found) = ComesToEnd base taken s found × EndSaid says (spent_of s.seat_is) found

-- a connection was shut that held what the writer holds, where there is an end of its own
abbrev pub IsShutAtItsEnd : (Option (List ℕ) → Type 0) → LoggedWriterState → Option End → Type 0
IsShutAtItsEnd was_shut writer None = Unit {0}
IsShutAtItsEnd was_shut writer (Some found) = was_shut writer.contents

-- what came of the requests of a ring, each refusal of which was said by the kernel; a gate that always says yes has refused no answer
pub record AnswersRing (says : Says) (always : Bool) (base : Option (List ℕ)) (s : AnsweredState) : Type 0 where
  pub answered : HasAnswered says base (received s.ring) s s.end_is
  pub said : AreSaid (RefusalSaid says (received s.ring)) s.answers
  pub let_through : always ≡ true → s.writer.log.refusals ≡ 0
