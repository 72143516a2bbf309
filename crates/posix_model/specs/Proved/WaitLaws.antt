-- Who waits, and until when.
use Rattle.std.specs.Prelude.{◌≡◌, ◌≢◌, ℕ, ℤ, pos, ◌<◌, ◌≤◌, ◌==◌, Bool, true, false, not, List, None, Some}
use Rattle.std.specs.Option.{option_map_or}
use Rattle.call_types.specs.CallTable.{descriptor_of}
use Rattle.call_types.specs.Flags.{has}
use Rattle.call_types.specs.Flags as flag
use Rattle.call_types.specs.declared.call.Call.TheVariants as call
use Rattle.call_types.specs.declared.act.Act.TheVariants as act
use Rattle.slots.specs.Slots.{slot, edited}
use Rattle.process_table.specs.Processes.{parked_of, with_parked}
use Rattle.posix_model.specs.Types.{Call, Record, Errno, Bounds, World, Parked, OpenDescriptor, DataSource, Change, Decided, Try, PIPE_BUF, EPIPE, Replied, ParkedAt, Error}
use Rattle.posix_model.specs.declared.change.ProcessEdit.TheVariants as on_process
use Rattle.posix_model.specs.Pages.{no_change}
use Rattle.posix_model.specs.Descriptors.{opened}
use Rattle.posix_model.specs.Pipes.{has_reader, pipe_at}
use Rattle.posix_model.specs.Sweep.{sweep}
use Rattle.posix_model.specs.declared.change.Try.TheVariants.{Ends, Waits}
use Rattle.posix_model.specs.Tries.{read_try, write_try}
use Rattle.posix_model.specs.Resume.{read_ready, write_ready}
use Rattle.posix_model.specs.PipeRecord.{opened_if}
use Rattle.posix_model.specs.Step.{Stepped, decided, comes_to, step, EndsOrWaits, EndsOrGoesOn}
use Rattle.posix_model.specs.History.{world_of}

-- whether a try leaves its call as it was: it waits, and has moved no more (own)
abbrev pub is_stuck : ℕ → Try → Bool
is_stuck moved (Ends reply edit) = false
is_stuck moved (Waits now edit) = now == moved

-- a read is ready exactly where its next try ends (page of read)
abbrev pub ReadyReads : Type 0
ReadyReads = (w : World) (pipe count : ℕ) → read_ready w pipe ≡ not (is_stuck 0 (read_try w pipe count))

-- a write that has bytes left, and has moved none if it is small, is ready exactly where its next try ends or moves more (page of write)
abbrev pub ReadyWrites : Type 0
ReadyWrites = (bounds : Bounds) (w : World) (pipe : ℕ) (s : DataSource) (len moved : ℕ) → moved < len → (len ≤ PIPE_BUF → moved ≡ 0) →
    write_ready bounds w pipe len ≡ not (is_stuck moved (write_try bounds w pipe s len moved))

-- whether a call is under nonblock: an open by its flags, any other by the description that it is on, if that is open (O_NONBLOCK of open)
abbrev pub is_nonblocking : World → ℕ → Call → Bool
is_nonblocking w process (call.Open name flags) = has flags flag.nonblocking
is_nonblocking w process other = option_map_or (λ o. o.description.nonblock) (opened_if w process (descriptor_of other)) true

-- no call under nonblock waits (O_NONBLOCK of open, read and write)
abbrev pub NonblockNeverWaits : Type 0
NonblockNeverWaits = (bounds : Bounds) (w : World) (process : ℕ) (c : Call) (moved : ℕ) → is_nonblocking w process c ≡ true →
    (decided bounds w process c).outcome ≢ ParkedAt moved

-- a process waits in this call, on an end of this pipe
pub record WaitsOn (w : World) (process : ℕ) (c : Call) (pipe : ℕ) : Type 0 where
  pub parked : Parked
  pub waits : parked_of (slot w.processes process) ≡ Some parked
  pub call_is : parked.call ≡ c
  pub end : OpenDescriptor
  pub end_is : opened w process (pos parked.fd) ≡ Some end
  pub pipe_is : pipe_at end.description.target ≡ Some pipe

-- a process waits in no call any more, and nothing else changes
abbrev pub ends_wait : ℕ → Change
ends_wait process = record no_change { process = on_process.Unpark process }

-- a resume that is refused: a write that moved nothing, into a pipe that nobody reads, is told EPIPE and waits no more (page of write)
pub record BreaksAlone (w : World) (process : ℕ) (error : Errno) (d : Decided) : Type 0 where
  pub told : error ≡ EPIPE
  pub fd : ℤ
  pub bytes : List ℕ
  pub pipe : ℕ
  pub on : WaitsOn w process (call.Write fd bytes) pipe
  pub unmoved : on.parked.moved ≡ 0
  pub unread : has_reader w pipe ≡ false
  pub change : d.change ≡ ends_wait process

-- every resume that is refused is refused so (page of write)
abbrev pub ResumeBreaksAlone : Type 0
ResumeBreaksAlone = (bounds : Bounds) (w : World) (process : ℕ) (d : Decided) (error : Errno) → comes_to bounds w process act.Resume ≡ Some d →
    d.outcome ≡ Replied (Error error) → BreaksAlone w process error d

-- the world in which a process waits in no call
abbrev pub unparked : World → ℕ → World
unparked w process = record w { processes = edited process (with_parked None) w.processes }

-- the error is EPIPE, and the process waits in no call, in a world that is else the one before, swept
pub record BrokenStep (w : World) (process : ℕ) (error : Errno) (s : Stepped) : Type 0 where
  pub told : error ≡ EPIPE
  pub world : s.world ≡ sweep (unparked w process)

-- so it is after each step in which a resume is refused (page of write)
abbrev pub BrokenStepUnparks : Type 0
BrokenStepUnparks = (bounds : Bounds) (w : World) (process : ℕ) (s : Stepped) (error : Errno) → step bounds w process act.Resume ≡ Some s →
    s.outcome ≡ Replied (Error error) → BrokenStep w process error s

-- and in a history, where nothing waits for a sweep, nothing else changes (own)
abbrev pub BrokenNextUnparks : Type 0
BrokenNextUnparks = (bounds : Bounds) (h : List Record) (process : ℕ) (s : Stepped) (error : Errno) → step bounds (world_of bounds h) process act.Resume
    ≡ Some s → s.outcome ≡ Replied (Error error) →
    s.world ≡ unparked (world_of bounds h) process

-- what is recorded of a call
abbrev pub CallsEndOrWait : Type 0
CallsEndOrWait = (bounds : Bounds) (w : World) (process : ℕ) (c : Call) (s : Stepped) → step bounds w process (act.Call c) ≡ Some s → EndsOrWaits s.outcome

-- what is recorded of a resume
abbrev pub ResumesEndOrGoOn : Type 0
ResumesEndOrGoOn = (bounds : Bounds) (w : World) (process : ℕ) (s : Stepped) → step bounds w process act.Resume ≡ Some s → EndsOrGoesOn s.outcome
