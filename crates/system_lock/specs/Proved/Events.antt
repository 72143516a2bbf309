-- What one holding of the lock does to the book, and to those that sleep (own).
use Rattle.std.specs.Prelude.{◌≡◌, ◌≢◌, ℕ, true, false, not, is_some, List, None, Some, Result, Ok, Err}
use Rattle.std.specs.List.{filter}
use Rattle.call_types.specs.declared.act.Act.TheVariants as act
use Rattle.call_types.specs.declared.call.Call.{Call}
use Rattle.call_types.specs.declared.request.Request.{Request}
use Rattle.call_types.specs.declared.request.Request.TheVariants as request
use Rattle.call_types.specs.declared.refusal.Refusal.{Refusal}
use Rattle.call_types.specs.declared.refusal.Refusal.TheVariants as refusal
use Rattle.record_book.specs.Seat.{Receipted, SeatState}
use Rattle.record_book.specs.Book.{BookState, Records}
use Rattle.record_book.specs.Openings.{Opened, Joins, Attaches}
use Rattle.record_book.specs.declared.opening.Opened.TheVariants as opened
use Rattle.record_book.specs.Resumes.{Resumes}
use Rattle.record_book.specs.declared.calling.Resumed.TheVariants as resumed
use Rattle.record_book.specs.Refusals.{IsDue, join_refusal, attach_refusal, start_refusal, exit_refusal, resume_refusal, is_ready_in}
use Rattle.record_book.specs.Ends.{Exits}
use Rattle.system_lock.specs.System.{SystemState, is_live_in, is_among}
use Rattle.system_lock.specs.Proved.Sleeping.{with_one, wakes_in}
use Rattle.system_lock.specs.Proved.Acts.{Tried}
use Rattle.system_lock.specs.declared.acts.Tried.TheVariants as tried
use Rattle.system_lock.specs.declared.kernel.Why.{Why}
use Rattle.system_lock.specs.declared.kernel.Why.TheVariants as why

-- an opening is recorded; or it is refused as is due, and the book is as it was
abbrev pub OpensIn : BookState → BookState → Request → Result Opened Refusal → Type 0
OpensIn old new request.Join (Ok opened) = Joins old new opened
OpensIn old new request.Join (Err refusal) = (new ≡ old) × IsDue (join_refusal old) refusal
OpensIn old new (request.Attach process) (Ok opened) = Attaches old new process opened
OpensIn old new (request.Attach process) (Err refusal) = (new ≡ old) × IsDue (attach_refusal old process) refusal
OpensIn old new (request.Call call) told = ⊥

-- the seat that an opening gives, be it spent
abbrev pub opened_seat : Opened → SeatState
opened_seat (opened.Seated s) = s
opened_seat (opened.Refused s) = s

-- a call is recorded; or it is refused as is due, and book and seat are as they were
abbrev pub CallsIn : BookState → BookState → SeatState → SeatState → Call → Result Receipted Refusal → Type 0
CallsIn old new s t call (Ok receipt) = Records old new s t (act.Call call) receipt
CallsIn old new s t call (Err refusal) = (new ≡ old) × (t ≡ s) × IsDue (start_refusal old s call) refusal

-- an exit is recorded; or the book knows no such seat, and is as it was
abbrev pub ExitsIn : BookState → BookState → SeatState → SeatState → Why → Type 0
ExitsIn old new s t why.Foreign = (new ≡ old) × (t ≡ s) × (is_some (exit_refusal old s) ≡ true)
ExitsIn old new s t other = Exits old new s t

-- an exit is recorded only where the book knows the seat
abbrev pub ExitIsDue : BookState → SeatState → Why → Type 0
ExitIsDue b s why.Foreign = Unit {0}
ExitIsDue b s other = exit_refusal b s ≡ None

-- why a call that waits may end its process: memory is wanting, where no refusal is due and the call is ready; the run is full; the book
-- knows no such seat; or the call is not ready, where no refusal is due and the connection is lost
abbrev pub IsDueEnd : BookState → SeatState → Why → Type 0
IsDueEnd b s why.NoMemory = (resume_refusal b s ≡ None) × (is_ready_in b s.pid ≡ true)
IsDueEnd b s why.RunFull = resume_refusal b s ≡ Some refusal.RunFull
IsDueEnd b s why.Foreign = Unit {0}
IsDueEnd b s why.HungUp = ⊥
IsDueEnd b s why.Lost = (resume_refusal b s ≡ None) × (is_ready_in b s.pid ≡ false)

-- one try of a resume: it is recorded; or the call is not ready, and book and seat are as they were; or the process ends
abbrev pub TriesIn : BookState → BookState → SeatState → Tried → Type 0
TriesIn old new s (tried.Resumed t receipt) = Resumes old new s t (resumed.Recorded receipt)
TriesIn old new s (tried.Still t) = Resumes old new s t resumed.Still
TriesIn old new s (tried.Ended ended) = ExitsIn old new s ended.seat ended.why × IsDueEnd old s ended.why

-- a call is told to wait on only where no refusal is due
abbrev pub StillIsDue : BookState → SeatState → Tried → Type 0
StillIsDue b s (tried.Still t) = resume_refusal b s ≡ None
StillIsDue b s other = Unit {0}

-- a try of the book alone gives no call up
abbrev pub GivesNoneUp : Tried → Type 0
GivesNoneUp (tried.Ended ended) = ended.why ≢ why.Lost
GivesNoneUp other = Unit {0}

-- a process is given up only where its connection is lost
abbrev pub GivesUpTheLost : List ℕ → SeatState → Tried → Type 0
GivesUpTheLost lost s (tried.Ended ended) = ended.why ≡ why.Lost → is_among lost s.pid ≡ true
GivesUpTheLost lost s other = Unit {0}

-- a process is told to wait on only where its connection is not lost, and the book is as it was
abbrev pub IsLeftWaiting : SystemState → SystemState → SeatState → Tried → Type 0
IsLeftWaiting old new s (tried.Still t) = (is_among old.lost_are s.pid ≡ false) × (new.book_is ≡ old.book_is)
IsLeftWaiting old new s other = Unit {0}

-- those that sleep on: of them, who are live and whose call is not ready
abbrev pub still_asleep : BookState → List ℕ → List ℕ
still_asleep b asleep = filter (λ process. not (wakes_in b process)) asleep

-- those that stay marked as lost: of them, who are live
abbrev pub still_lost : BookState → List ℕ → List ℕ
still_lost b lost = filter (λ process. is_live_in b process) lost

-- those that sleep once a try has told a process to wait on
abbrev pub with_sleeper : List ℕ → Tried → List ℕ
with_sleeper asleep (tried.Still s) = with_one asleep s.pid
with_sleeper asleep other = asleep
