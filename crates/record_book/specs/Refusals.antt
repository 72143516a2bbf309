-- The refusals that are not recorded, in their order (own).
use Rattle.std.specs.Prelude.{◌≡◌, ℕ, ◌+◌, Bool, true, not, ◌&&◌, nat_lt, List, [], ◌∷◌, ◌++◌, Option, None, Some, length}
use Rattle.call_types.specs.declared.act.Act.{Act}
use Rattle.call_types.specs.declared.act.Act.TheVariants as act
use Rattle.call_types.specs.declared.call.Call.{Call}
use Rattle.call_types.specs.declared.refusal.Refusal.{Refusal}
use Rattle.call_types.specs.declared.refusal.Refusal.TheVariants.{NoMemory, RunFull, Waiting, NotHere, Foreign}
use Rattle.slots.specs.Slots.{slot}
use Rattle.process_table.specs.Processes.{is_here}
use Rattle.posix_model.specs.History.{after_act}
use Rattle.posix_model.specs.Pages.{first_fault}
use Rattle.posix_model.specs.Reserve.{has_reserve}
use Rattle.posix_model.specs.Step.{is_parked}
use Rattle.posix_model.specs.Resume.{is_ready}
use Rattle.record_book.specs.Seat.{SeatState}
use Rattle.record_book.specs.RunState.{RunState, next_of}
use Rattle.record_book.specs.Book.{BookState, run_of}

-- the refusal of the first condition that holds
abbrev pub first_refusal : List (Bool × Refusal) → Option Refusal
first_refusal refusals = first_fault refusals

-- whether too few records would be left after the record of this act, in a run that came so far
abbrev pub is_run_full : RunState → ℕ → Act → Bool
is_run_full s actor act = not (has_reserve s.limits.records (after_act s.limits.bounds s.world actor act) (s.counts.records + 1))

-- whether a process waits in a call that is ready
abbrev pub is_run_ready : RunState → ℕ → Bool
is_run_ready s process = is_ready s.limits.bounds s.world process

-- the one refusal of a join, and of an attach: the run is full
abbrev pub opening_refusals : RunState → ℕ → Act → List (Bool × Refusal)
opening_refusals s actor act = (is_run_full s actor act, RunFull) ∷ []

-- the one refusal of an exit: the process is not live and attached
abbrev pub exit_refusals : RunState → ℕ → List (Bool × Refusal)
exit_refusals s process = (not (is_here (slot s.world.processes process)), NotHere) ∷ []

-- the refusals of a call: that; then that its process waits in a call; then that the run is full
abbrev pub call_refusals : RunState → ℕ → Call → List (Bool × Refusal)
call_refusals s process call =
    exit_refusals s process
    ++ (is_parked (slot s.world.processes process), Waiting)
    ∷ (is_run_full s process (act.Call call), RunFull)
    ∷ []

-- the refusals of a resume: that of an exit; then, if its process waits in a call that is ready, that the run is full
abbrev pub resume_refusals : RunState → ℕ → List (Bool × Refusal)
resume_refusals s process = exit_refusals s process ++ (is_run_ready s process && is_run_full s process act.Resume, RunFull) ∷ []

-- the same of a book
abbrev pub is_too_full : BookState → ℕ → Act → Bool
is_too_full b actor act = is_run_full (run_of b) actor act

abbrev pub is_ready_in : BookState → ℕ → Bool
is_ready_in b process = is_run_ready (run_of b) process

-- what is refused first of all that a seat's process does: the seat has seen more records than there are
abbrev pub foreign : BookState → SeatState → Bool × Refusal
foreign b s = (nat_lt (length b.history) s.seen, Foreign s.seen (length b.history))

-- the refusals of all that it does: that, and that of an exit
abbrev pub seat_refusals : BookState → SeatState → List (Bool × Refusal)
seat_refusals b s = foreign b s ∷ exit_refusals (run_of b) s.pid

-- the refusals of a call, and the first of them
abbrev pub start_refusals : BookState → SeatState → Call → List (Bool × Refusal)
start_refusals b s call = foreign b s ∷ call_refusals (run_of b) s.pid call

abbrev pub start_refusal : BookState → SeatState → Call → Option Refusal
start_refusal b s call = first_refusal (start_refusals b s call)

-- the one refusal of a join, and of an attach
abbrev pub join_refusal : BookState → Option Refusal
join_refusal b = first_refusal (opening_refusals (run_of b) (next_of (run_of b)) act.Join)

abbrev pub attach_refusal : BookState → ℕ → Option Refusal
attach_refusal b process = first_refusal (opening_refusals (run_of b) process act.Attach)

-- the first refusal of an exit, which has only the two of a seat
abbrev pub exit_refusal : BookState → SeatState → Option Refusal
exit_refusal b s = first_refusal (seat_refusals b s)

-- the first refusal of a resume
abbrev pub resume_refusal : BookState → SeatState → Option Refusal
resume_refusal b s = first_refusal (foreign b s ∷ resume_refusals (run_of b) s.pid)

-- a refusal is the first that is due; if none is due, memory ran out
abbrev pub IsDue : Option Refusal → Refusal → Type 0
IsDue (Some due) refusal = refusal ≡ due
IsDue None refusal = refusal ≡ NoMemory

-- the refusal of a resume is due; and if its process waits in no call that is ready, it is one of an exit
pub record ResumeRefused (b : BookState) (s : SeatState) (refusal : Refusal) : Type 0 where
  pub due : IsDue (resume_refusal b s) refusal
  pub ready : exit_refusal b s ≡ None → is_ready_in b s.pid ≡ true
