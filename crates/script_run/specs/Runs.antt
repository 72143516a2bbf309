-- What is told of the acts of a script, one after another (own).
use Rattle.std.specs.Prelude.{◌≡◌, ℕ, ◌-◌, nat_lt, not, Bool, true, false, List, [], ◌∷◌, ◌++◌, Option, None, Some, Result, Ok, Err, length, replicate, slice_set, if◌then◌else◌}
use Rattle.call_types.specs.declared.act.Act.TheVariants as act
use Rattle.call_types.specs.declared.act.TheConstants.{HOUSE}
use Rattle.call_types.specs.declared.act.ScriptAct.{ScriptAct}
use Rattle.call_types.specs.declared.act.ScriptAct.TheVariants as script
use Rattle.call_types.specs.declared.call.Call.{Call}
use Rattle.call_types.specs.declared.refusal.Refusal.{Refusal}
use Rattle.call_types.specs.declared.refusal.Refusal.TheVariants.{NotHere}
use Rattle.slots.specs.Slots.{slot}
use Rattle.process_table.specs.Processes.{awaits}
use Rattle.posix_model.specs.Join.{is_full}
use Rattle.record_book.specs.Seat.{Receipted, SeatState}
use Rattle.record_book.specs.Book.{BookState, world_now, Appends, Records}
use Rattle.record_book.specs.Counting.{only_records}
use Rattle.record_book.specs.Refusals.{start_refusal, join_refusal, attach_refusal, exit_refusal, resume_refusal, is_ready_in, IsDue, ResumeRefused}
use Rattle.record_book.specs.Openings.{next_pid, first_seat}
use Rattle.record_book.specs.Ends.{Closes}
use Rattle.script_run.specs.declared.told.ScriptAnswer.{ScriptAnswer}
use Rattle.script_run.specs.declared.told.ScriptAnswer.TheVariants.{Recorded, Closed, Still, Refused}

-- the seats that a script opened: that of a process stands at the process's number
abbrev pub Seats : Type 0
Seats = List (Option SeatState)

-- the seats with that of one more process
abbrev pub with_seat : ℕ → SeatState → Seats → Seats
with_seat process s seats =
    if nat_lt process (length seats) then slice_set seats process (Some s)
    else seats ++ replicate (process - length seats) None ++ Some s ∷ []

-- the seats after a join or an attach that is recorded: one more, unless it is the record of an error
abbrev pub seats_after : ℕ → Receipted → Seats → Bool → Seats
seats_after process receipt seats true = seats
seats_after process receipt seats false = with_seat process (first_seat process receipt) seats

-- a join is recorded
pub record JoinRecorded (old new : BookState) (seats after : Seats) (receipt : Receipted) : Type 0 where
  pub free : join_refusal old ≡ None
  pub appends : Appends old new (next_pid old) act.Join receipt
  pub seats_are : after ≡ seats_after (next_pid old) receipt seats (is_full (world_now old))

-- nothing is recorded, and nothing changes
pub record Unchanged (old new : BookState) (seats after : Seats) : Type 0 where
  pub book : new ≡ old
  pub seats_are : after ≡ seats

-- how a join of a script goes: recorded, or refused with nothing changed
abbrev pub JoinRuns : BookState → BookState → Seats → Seats → Result Receipted Refusal → Type 0
JoinRuns old new seats after (Ok receipt) = JoinRecorded old new seats after receipt
JoinRuns old new seats after (Err refusal) = IsDue (join_refusal old) refusal × Unchanged old new seats after

-- an attach is recorded
pub record AttachRecorded (old new : BookState) (seats after : Seats) (process : ℕ) (receipt : Receipted) : Type 0 where
  pub free : attach_refusal old process ≡ None
  pub appends : Appends old new process act.Attach receipt
  pub seats_are : after ≡ seats_after process receipt seats (not (awaits (slot (world_now old).processes process)))

-- how an attach of a script goes: recorded, or refused with nothing changed
abbrev pub AttachRuns : BookState → BookState → Seats → Seats → ℕ → Result Receipted Refusal → Type 0
AttachRuns old new seats after process (Ok receipt) = AttachRecorded old new seats after process receipt
AttachRuns old new seats after process (Err refusal) = IsDue (attach_refusal old process) refusal × Unchanged old new seats after

-- a call of a seat's process is recorded, and the seat has its receipt
pub record CallRecorded (old new : BookState) (seats after : Seats) (process : ℕ) (s : SeatState) (c : Call) (receipt : Receipted) : Type 0 where
  pub free : start_refusal old s c ≡ None
  pub seat : SeatState
  pub records : Records old new s seat (act.Call c) receipt
  pub seats_are : after ≡ slice_set seats process (Some seat)

-- how a call of a process with this seat goes: NotHere where the script opened no such process
abbrev pub CallRuns : BookState → BookState → Seats → Seats → ℕ → Call → Result Receipted Refusal → Option SeatState → Type 0
CallRuns old new seats after process c (Ok receipt) (Some s) = CallRecorded old new seats after process s c receipt
CallRuns old new seats after process c (Err refusal) (Some s) = IsDue (start_refusal old s c) refusal × Unchanged old new seats after
CallRuns old new seats after process c (Ok receipt) None = ⊥
CallRuns old new seats after process c (Err refusal) None = (refusal ≡ NotHere) × Unchanged old new seats after

-- a resume of a seat's process is recorded, and the seat has its receipt
pub record ResumeRecorded (old new : BookState) (seats after : Seats) (process : ℕ) (s : SeatState) (receipt : Receipted) : Type 0 where
  pub free : resume_refusal old s ≡ None
  pub ready : is_ready_in old s.pid ≡ true
  pub seat : SeatState
  pub records : Records old new s seat act.Resume receipt
  pub seats_are : after ≡ slice_set seats process (Some seat)

-- how a resume of a process with this seat goes that is recorded or refused: NotHere where the script opened no such process
abbrev pub ResumeRuns : BookState → BookState → Seats → Seats → ℕ → Result Receipted Refusal → Option SeatState → Type 0
ResumeRuns old new seats after process (Ok receipt) (Some s) = ResumeRecorded old new seats after process s receipt
ResumeRuns old new seats after process (Err refusal) (Some s) = ResumeRefused old s refusal × Unchanged old new seats after
ResumeRuns old new seats after process (Ok receipt) None = ⊥
ResumeRuns old new seats after process (Err refusal) None = (refusal ≡ NotHere) × Unchanged old new seats after

-- the process with this seat would not be refused an exit, it waits in no call that is ready, and nothing changes
abbrev pub StaysStill : BookState → BookState → Seats → Seats → Option SeatState → Type 0
StaysStill old new seats after None = ⊥
StaysStill old new seats after (Some s) = (exit_refusal old s ≡ None) × (is_ready_in old s.pid ≡ false) × Unchanged old new seats after

-- what is told as still: a closing of a run that is closed, and a resume of a process that waits in no call that is ready
abbrev pub IsStill : BookState → BookState → Seats → Seats → ScriptAct → Type 0
IsStill old new seats after script.CloseRun = Closes old new None × (after ≡ seats)
IsStill old new seats after (script.Resume process) = StaysStill old new seats after (slot seats process)
IsStill old new seats after other = ⊥

-- the exit of a seat's process is recorded, and the seat is spent
pub record ExitRecorded (old new : BookState) (seats after : Seats) (process : ℕ) (s : SeatState) (receipt : Receipted) : Type 0 where
  pub free : exit_refusal old s ≡ None
  pub appends : Appends old new s.pid act.Exit receipt
  pub seats_are : after ≡ slice_set seats process None

-- how an exit of a process with this seat goes: NotHere where the script opened no such process; no want of memory refuses it
abbrev pub ExitRuns : BookState → BookState → Seats → Seats → ℕ → Result Receipted Refusal → Option SeatState → Type 0
ExitRuns old new seats after process (Ok receipt) (Some s) = ExitRecorded old new seats after process s receipt
ExitRuns old new seats after process (Err refusal) (Some s) = (exit_refusal old s ≡ Some refusal) × Unchanged old new seats after
ExitRuns old new seats after process (Ok receipt) None = ⊥
ExitRuns old new seats after process (Err refusal) None = (refusal ≡ NotHere) × Unchanged old new seats after

-- how an act other than a closing goes
abbrev pub Runs : BookState → BookState → Seats → Seats → ScriptAct → Result Receipted Refusal → Type 0
Runs old new seats after script.Join ran = JoinRuns old new seats after ran
Runs old new seats after (script.Attach process) ran = AttachRuns old new seats after process ran
Runs old new seats after (script.Call process c) ran = CallRuns old new seats after process c ran (slot seats process)
Runs old new seats after (script.Resume process) ran = ResumeRuns old new seats after process ran (slot seats process)
Runs old new seats after (script.Exit process) ran = ExitRuns old new seats after process ran (slot seats process)
Runs old new seats after script.CloseRun ran = ⊥

-- the process whose act it is, or would be
abbrev pub actor_of : BookState → ScriptAct → ℕ
actor_of b script.Join = next_pid b
actor_of b (script.Attach process) = process
actor_of b (script.Call process c) = process
actor_of b (script.Resume process) = process
actor_of b (script.Exit process) = process
actor_of b script.CloseRun = HOUSE

-- the seat of the house with these receipts, after the closing
abbrev pub seat_of_house : BookState → List Receipted → SeatState
seat_of_house b receipts = record { pid = HOUSE; seen = length b.history; receipts = receipts; counted = only_records (length receipts) }

-- what is told of an act: its record, the records of a closing, that there is nothing to close or no call that is ready, or why there is no record
abbrev pub Tells : BookState → BookState → Seats → Seats → ScriptAct → List ScriptAnswer → Type 0
Tells old new seats after a (Recorded receipt ∷ []) = Runs old new seats after a (Ok receipt)
Tells old new seats after a (Closed receipts ∷ []) = (a ≡ script.CloseRun) × Closes old new (Some (seat_of_house new receipts.items)) × (after ≡ seats)
Tells old new seats after a (Still actor still ∷ []) = (actor ≡ actor_of old a) × (still ≡ a) × IsStill old new seats after a
Tells old new seats after a (Refused actor refused refusal ∷ []) = (actor ≡ actor_of old a) × (refused ≡ a) × Runs old new seats after a (Err refusal)
Tells old new seats after a other = ⊥

-- what is told of acts one after another, from a book and seats on
abbrev pub RunTells : BookState → BookState → Seats → Seats → List ScriptAct → List ScriptAnswer → Type 0
RunTells old new seats after [] told = (told ≡ []) × Unchanged old new seats after
RunTells old new seats after (a ∷ acts) told =
    (mid : BookState) × (between : Seats) × (first : List ScriptAnswer) × (more : List ScriptAnswer) ×
    (told ≡ first ++ more) × Tells old mid seats between a first × RunTells mid new between after acts more

-- whatever was told before, it is what is told of all acts together with what is told of one act more
abbrev pub GoesOn : BookState → BookState → Seats → Seats → ScriptAct → ScriptAnswer → Type 0
GoesOn old new seats after a told =
    (first : BookState) → (opened : Seats) → (acts : List ScriptAct) → (before : List ScriptAnswer) →
    RunTells first old opened seats acts before → RunTells first new opened after (acts ++ a ∷ []) (before ++ told ∷ [])
