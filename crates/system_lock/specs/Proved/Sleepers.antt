-- The processes that sleep, and what an event does to them (own).
use Rattle.std.specs.Prelude.{◌≡◌, ℕ, ◌+◌, ◌&&◌, Bool, true, false, List, Option, None, Result, map, slice_index_or, if◌then◌else◌}
use Rattle.std.specs.List.{remove}
use Rattle.call_types.specs.declared.act.Act.TheVariants as act
use Rattle.call_types.specs.declared.call.Call.{Call}
use Rattle.call_types.specs.declared.refusal.Refusal.{Refusal}
use Rattle.call_types.specs.declared.request.Request.{Request}
use Rattle.call_types.specs.declared.request.Request.TheVariants as request
use Rattle.record_book.specs.Seat.{Receipted, SeatState}
use Rattle.record_book.specs.Book.{BookState, world_now, Records}
use Rattle.record_book.specs.Openings.{Opened, next_pid}
use Rattle.system_lock.specs.Proved.Events.{OpensIn, CallsIn, ExitsIn}
use Rattle.system_lock.specs.Proved.Stirred.{pipe_waited, is_by, stirs, stirred_at, stirred_by, stirred_told}
use Rattle.system_lock.specs.System.{is_live_in}
use Rattle.system_lock.specs.Proved.Sleeping.{SleepsSound, wakes_in}
use Rattle.record_book.specs.Refusals.{is_ready_in}
use Rattle.system_lock.specs.declared.sleepers.Sleepers.{Sleepers}
use Rattle.system_lock.specs.declared.kernel.Why.{Why}
use Rattle.system_lock.specs.declared.stirred.Stirred.{Stirred}
use Rattle.system_lock.specs.declared.stirred.Stirred.TheVariants as stirred

-- the pipe on which the call of a process waits, if it waits in one
abbrev pub pipe_in : BookState → ℕ → Option ℕ
pipe_in b process = pipe_waited (world_now b) process

-- every process that sleeps is live and waits in no call that is ready, and the pipe of each is known
pub record SleepersSound (b : BookState) (sleepers : Sleepers) : Type 0 where
  pub none_wakes : SleepsSound b sleepers.asleep.items
  pub pipes : sleepers.pipes.items ≡ map (pipe_in b) sleepers.asleep.items

-- whom an event does not stir is as ready after it as before; and all but its own process wait on the same pipes, and live on
pub record SparesIn (old new : BookState) (s : Stirred) : Type 0 where
  pub ready : (process : ℕ) → stirs s process (pipe_in old process) ≡ false → is_ready_in new process ≡ is_ready_in old process
  pub pipe : (process : ℕ) → is_by s process ≡ false → pipe_in new process ≡ pipe_in old process
  pub live : (process : ℕ) → is_by s process ≡ false → is_live_in old process ≡ true → is_live_in new process ≡ true

-- those that sleep were sound in some book, from which an event led to this one that stirred these
abbrev pub AreSpared : BookState → Stirred → Sleepers → Type 0
AreSpared b s sleepers = (was : BookState) × SleepersSound was sleepers × SparesIn was b s

-- whether the sleeper at a place is woken
abbrev pub wakes_at : BookState → Stirred → Sleepers → ℕ → Bool
wakes_at b s sleepers at =
    let process = slice_index_or sleepers.asleep.items at 0 in
    stirs s process (slice_index_or sleepers.pipes.items at None) && wakes_in b process

-- a list, without what stands at a place, if that is woken
abbrev pub without_if : {T : Type 0} → Bool → List T → ℕ → List T
without_if woken xs at = if woken then remove xs at else xs

-- the place of the next
abbrev pub next_if : Bool → ℕ → ℕ
next_if woken at = if woken then at else at + 1

-- the sleeper at a place is looked at, and goes if it is woken
pub record LooksAt (b : BookState) (s : Stirred) (old new : Sleepers) (at next : ℕ) : Type 0 where
  pub asleep : new.asleep.items ≡ without_if (wakes_at b s old at) old.asleep.items at
  pub pipes : new.pipes.items ≡ without_if (wakes_at b s old at) old.pipes.items at
  pub place : next ≡ next_if (wakes_at b s old at) at

-- the pipe on which a process waits after an event, if it waited on this one before
abbrev pub pipe_then : BookState → Stirred → ℕ → Option ℕ → Option ℕ
pipe_then b s process pipe = if is_by s process then pipe_in b process else pipe

-- the process that an opening is of: the one that it opens
abbrev pub opener : BookState → Request → ℕ
opener b request.Join = next_pid b
opener b (request.Attach process) = process
opener b (request.Call call) = 0

-- a call spares all whom it does not stir (own)
abbrev pub CallsSpare : Type 0
CallsSpare = (old new : BookState) (s t : SeatState) (call : Call) (told : Result Receipted Refusal) → CallsIn old new s t call told →
    SparesIn old new (stirred_told told (stirred_by (world_now old) s.pid call))

-- a resume (own)
abbrev pub ResumesSpare : Type 0
ResumesSpare = (old new : BookState) (s t : SeatState) (receipt : Receipted) → Records old new s t act.Resume receipt →
    SparesIn old new (stirred_at s.pid (pipe_in old s.pid))

-- an opening (own)
abbrev pub OpensSpare : Type 0
OpensSpare = (old new : BookState) (request : Request) (told : Result Opened Refusal) → OpensIn old new request told →
    SparesIn old new (stirred.Anybody (opener old request))

-- and an exit (own)
abbrev pub ExitsSpare : Type 0
ExitsSpare = (old new : BookState) (s t : SeatState) (reason : Why) → ExitsIn old new s t reason → SparesIn old new (stirred.Anybody s.pid)
