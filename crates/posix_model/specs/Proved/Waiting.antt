-- The calls that processes wait in: what is true of each in every world of a history.
use Rattle.std.specs.Prelude.{◌≡◌, ℕ, ℤ, pos, ◌<◌, ◌≤◌, Bool, true, false, not, ◌&&◌, List, Some, length, is_some}
use Rattle.slots.specs.Slots.{slot}
use Rattle.call_types.specs.Descriptions.{can_read, can_write}
use Rattle.call_types.specs.declared.call.Call.TheVariants as call
use Rattle.call_types.specs.declared.description.Target.TheVariants as target
use Rattle.posix_model.specs.declared.change.DataSource.TheVariants as source
use Rattle.process_table.specs.Processes.{is_here, parked_of}
use Rattle.posix_model.specs.Types.{Call, Act, Record, OpenFlags, Bounds, World, Parked, Target, Mode, OpenDescriptor, Decided, PIPE_BUF, Replied, Number}
use Rattle.posix_model.specs.Descriptors.{opened}
use Rattle.posix_model.specs.Pipes.{pipe_at}
use Rattle.posix_model.specs.Tries.{read_try, write_try}
use Rattle.posix_model.specs.Resume.{is_ready, resume}
use Rattle.posix_model.specs.Step.{Stepped, step}
use Rattle.posix_model.specs.History.{world_of}
use Rattle.posix_model.specs.Proved.WaitLaws.{is_stuck, WaitsOn}

-- whether a target is an end of a FIFO
abbrev pub is_fifo_end : Target → Bool
is_fifo_end (target.Fifo file pipe) = true
is_fifo_end other = false

-- whether a call may wait on this: a read or a write on an end that is open for it, an open on an end of a FIFO (pages of read, write and open)
abbrev pub may_wait : Call → Target → Mode → Bool
may_wait (call.Read fd count) t mode = is_some (pipe_at t) && can_read mode
may_wait (call.Write fd bytes) t mode = is_some (pipe_at t) && can_write mode
may_wait (call.Open name flags) t mode = is_fifo_end t
may_wait other t mode = false

-- what a call that waits has moved: a write less than its data, and none of it if that is small; a read or an open nothing (page of write)
abbrev pub HasLeft : Call → ℕ → Type 0
HasLeft (call.Write fd bytes) moved = (moved < length bytes) × (length bytes ≤ PIPE_BUF → moved ≡ 0)
HasLeft other moved = moved ≡ 0

-- a call that waits: of a process with a connection, on an open descriptor on which it may wait, with something left to do (own)
pub record WaitsWell (w : World) (process : ℕ) (parked : Parked) : Type 0 where
  pub here : is_here (slot w.processes process) ≡ true
  pub end : OpenDescriptor
  pub end_is : opened w process (pos parked.fd) ≡ Some end
  pub may : may_wait parked.call end.description.target end.description.mode ≡ true
  pub moved : HasLeft parked.call parked.moved

-- each call that waits in a world waits so (own)
abbrev pub EachWaitsWell : World → Type 0
EachWaitsWell w = (process : ℕ) (parked : Parked) → parked_of (slot w.processes process) ≡ Some parked → WaitsWell w process parked

-- each step keeps that (own)
abbrev pub StepKeepsWaits : Type 0
StepKeepsWaits = (bounds : Bounds) (w : World) (actor : ℕ) (act : Act) (s : Stepped) → EachWaitsWell w → step bounds w actor act ≡ Some s →
    EachWaitsWell s.world

-- and so it is in every world of a history, legal or not (own)
abbrev pub HistoryWaits : Type 0
HistoryWaits = (bounds : Bounds) (h : List Record) → EachWaitsWell (world_of bounds h)

-- where each call waits so, a read that waits is ready exactly where its next try ends (page of read)
abbrev pub WaitingReadIsReady : Type 0
WaitingReadIsReady = (bounds : Bounds) (w : World) (process : ℕ) (fd : ℤ) (count pipe : ℕ) → EachWaitsWell w → WaitsOn w process (call.Read fd count) pipe →
    is_ready bounds w process ≡ not (is_stuck 0 (read_try w pipe count))

-- a write that waits is ready exactly where its next try ends or moves more (page of write)
abbrev pub WaitingWriteIsReady : Type 0
WaitingWriteIsReady = (bounds : Bounds) (w : World) (process : ℕ) (fd : ℤ) (bytes : List ℕ) (pipe : ℕ) → EachWaitsWell w →
    (on : WaitsOn w process (call.Write fd bytes) pipe) →
    is_ready bounds w process ≡ not (is_stuck on.parked.moved (write_try bounds w pipe (source.Parked process) (length bytes) on.parked.moved))

-- and an open that waits, where it is taken up, ends with its descriptor (page of open)
abbrev pub ReadyOpenEnds : Type 0
ReadyOpenEnds = (bounds : Bounds) (w : World) (process : ℕ) (name : List ℕ) (flags : OpenFlags) (pipe : ℕ) (d : Decided) →
    (on : WaitsOn w process (call.Open name flags) pipe) →
    resume bounds w process ≡ Some d → d.outcome ≡ Replied (Number on.parked.fd)
