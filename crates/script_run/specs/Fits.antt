-- The books and seats that a run may stand for: they say what is told of its acts (own).
use Rattle.std.specs.Prelude.{◌≡◌, ◌≤◌, ℕ, Bool, true, false, List, [], ◌∷◌, Option, None, Some, if◌then◌else◌}
use Rattle.call_types.specs.declared.act.ScriptAct.{ScriptAct}
use Rattle.slots.specs.Slots.{slot}
use Rattle.process_table.specs.declared.process.Process.{Process}
use Rattle.process_table.specs.Processes.{is_here}
use Rattle.posix_model.specs.History.{legal}
use Rattle.byte_ledger.specs.declared.tallies.Sums.{Sums}
use Rattle.record_book.specs.Seat.{Receipted, SeatState}
use Rattle.record_book.specs.RunState.{RunState}
use Rattle.record_book.specs.Book.{BookState, run_of}
use Rattle.record_book.specs.Counting.{CountsOf}
use Rattle.script_run.specs.Runs.{Seats, Tells, GoesOn}
use Rattle.script_run.specs.declared.told.ScriptAnswer.{ScriptAnswer}

-- the records of a book are a run of the model, and lead to where a run of a script is
pub record LeadsTo (b : BookState) (s : RunState) : Type 0 where
  pub run : s ≡ run_of b
  pub is_legal : legal b.limits.bounds b.history

-- the receipts of the house: none yet, until the closing gives them away
abbrev pub house_of : Bool → Option (List Receipted)
house_of closed = if closed then None else Some []

-- what stands at a process's number among the seats: its seat, which has seen no more records than there are, exactly if the process
-- is here
abbrev pub StandsFor : (records process : ℕ) → Option Process → Option SeatState → Type 0
StandsFor records process there None = is_here there ≡ false
StandsFor records process there (Some s) = (is_here there ≡ true) × (s.pid ≡ process) × (s.seen ≤ records)

-- so it is at each number
abbrev pub SeatsFit : List (Option Process) → ℕ → Seats → Type 0
SeatsFit processes records seats = (process : ℕ) → StandsFor records process (slot processes process) (slot seats process)

-- a book and seats fit a run of a script
pub record FitsRun (b : BookState) (seats : Seats) (s : RunState) : Type 0 where
  pub leads : LeadsTo b s
  pub house : b.house ≡ house_of s.world.closed
  pub seats_fit : SeatsFit s.world.processes s.counts.records seats

-- an act leads from a book and seats to a book and seats that fit the run after it; that is what is told of it, and together with whatever
-- was told before it is what is told of all acts
pub record RunsTo (b : BookState) (seats : Seats) (new : RunState) (act : ScriptAct) (told : ScriptAnswer) : Type 0 where
  pub book : BookState
  pub seats_are : Seats
  pub fits : FitsRun book seats_are new
  pub tells : Tells b book seats seats_are act (told ∷ [])
  pub goes_on : GoesOn b book seats seats_are act told

-- from whatever book and seats that fit the run before it
abbrev pub RunsFrom : RunState → RunState → ScriptAct → ScriptAnswer → Type 0
RunsFrom old new act told = (b : BookState) → (seats : Seats) → FitsRun b seats old → RunsTo b seats new act told

-- whatever book fits a run is counted so
abbrev pub IsCounted : RunState → Sums → Type 0
IsCounted s sums = (b : BookState) → (seats : Seats) → FitsRun b seats s → CountsOf b sums
