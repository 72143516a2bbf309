-- What holds of pipes and FIFOs, in words that the pages use.
use Rattle.std.specs.Prelude.{◌≡◌, ◌≢◌, ℕ, ℤ, pos, ◌+◌, ◌≤◌, true, false, List, [], ◌++◌, Option, None, Some, length, if◌then◌else◌}
use Rattle.std.specs.Option.{option_map}
use Rattle.call_types.specs.Descriptions.{can_read, can_write}
use Rattle.call_types.specs.Names.{file_of}
use Rattle.call_types.specs.declared.act.Act.TheVariants as act
use Rattle.call_types.specs.declared.call.Call.TheVariants as call
use Rattle.call_types.specs.declared.description.Mode.TheVariants as mode
use Rattle.call_types.specs.declared.description.Target.TheVariants as target
use Rattle.slots.specs.Slots.{slot, lowest}
use Rattle.process_table.specs.Processes.{table_of, parked_of}
use Rattle.posix_model.specs.Descriptors.{opened}
use Rattle.posix_model.specs.Pipes.{pipe_at, fifo_at, pipe_of_fifo}
use Rattle.posix_model.specs.Open.{mode_of}
use Rattle.posix_model.specs.Change.{after_those, changed}
use Rattle.posix_model.specs.Sweep.{is_open}
use Rattle.posix_model.specs.Resume.{is_ready}
use Rattle.posix_model.specs.Step.{comes_to, Stepped, step}
use Rattle.posix_model.specs.Types.{PIPE_BUF}
use Rattle.plain_world.specs.Proved.Types.{Outcome, OpenFlags, Bounds, World, Mode, Parked, Fifo, OpenDescriptor, Decided, Replied, Number}
use Rattle.plain_world.specs.Proved.Calls.{outcome_of, before_sweep, IsNoError}

-- an open of a FIFO that is not refused is for reading or for writing, and not for both (own; page of open: for both it is undefined)
abbrev pub FifoOpensOneWay : Type 0
FifoOpensOneWay = (bounds : Bounds) (w : World) (process : ℕ) (name : List ℕ) (flags : OpenFlags) (number : ℕ) (fifo : Fifo) →
    file_of name w.names ≡ Some number →
    fifo_at (slot w.files number) ≡ Some fifo → IsNoError (outcome_of bounds w process (call.Open name flags)) → mode_of flags ≢ mode.ReadWrite

-- a FIFO was opened once more: the count of an end is one more where the open was for that end, and else as it was
pub record CountsOpening (v : World) (number : ℕ) (mode : Mode) (before : Fifo) : Type 0 where
  pub after : Fifo
  pub stands : fifo_at (slot v.files number) ≡ Some after
  pub reading : after.reader_openings ≡ before.reader_openings + (if can_read mode then 1 else 0)
  pub writing : after.writer_openings ≡ before.writer_openings + (if can_write mode then 1 else 0)

-- so does each open of a FIFO that is not refused: one that waits does not raise the count that it waits for (own)
abbrev pub FifoCountsOpenings : Type 0
FifoCountsOpenings = (bounds : Bounds) (w : World) (process : ℕ) (name : List ℕ) (flags : OpenFlags) (number : ℕ) (fifo : Fifo) →
    file_of name w.names ≡ Some number →
    fifo_at (slot w.files number) ≡ Some fifo → IsNoError (outcome_of bounds w process (call.Open name flags)) →
    CountsOpening (before_sweep bounds w process (call.Open name flags)) number (mode_of flags) fifo

-- a FIFO has the next pipe, which is empty, and the lowest free descriptor leads to it
pub record OpensEmpty (w v : World) (process number : ℕ) : Type 0 where
  pub fd : ℕ
  pub is_lowest : lowest (table_of (slot w.processes process)) ≡ Some fd
  pub leads : option_map (λ o. o.description.target) (opened v process (pos fd)) ≡ Some (target.Fifo number (length w.pipes))
  pub has : pipe_of_fifo (fifo_at (slot v.files number)) ≡ Some (length w.pipes)
  pub empty : slot v.pipes (length w.pipes) ≡ Some []

-- an open that is not refused, of a FIFO of which no end is open, leads to a pipe that is empty: what was left in an earlier one
-- is gone (page of open; page of close: what is left is discarded with the last end)
abbrev pub ReopenedIsEmpty : Type 0
ReopenedIsEmpty = (bounds : Bounds) (w : World) (process : ℕ) (name : List ℕ) (flags : OpenFlags) (number : ℕ) (fifo : Fifo) →
    file_of name w.names ≡ Some number →
    fifo_at (slot w.files number) ≡ Some fifo → fifo.pipe ≡ None → IsNoError (outcome_of bounds w process (call.Open name flags)) →
    OpensEmpty w (before_sweep bounds w process (call.Open name flags)) process number

-- an exit leaves just the pipes of which an end is open after it, each with its bytes, also those that a call which waited had put
-- there (page of exit)
abbrev pub ExitTakesBackNothing : Type 0
ExitTakesBackNothing = (bounds : Bounds) (w : World) (process : ℕ) (s : Stepped) (pipe : ℕ) → step bounds w process act.Exit ≡ Some s →
    slot s.world.pipes pipe ≡ (if is_open s.world.descriptions pipe then slot w.pipes pipe else None)

-- a pipe holds the bytes that it held, and perhaps more after them
pub record HoldsAfter (there : List ℕ) (now : Option (List ℕ)) : Type 0 where
  pub more : List ℕ
  pub holds : now ≡ Some (there ++ more)

-- a write leaves the bytes that a pipe held as the first of those that it holds (page of write)
abbrev pub WriteLosesNothing : Type 0
WriteLosesNothing = (bounds : Bounds) (w : World) (process : ℕ) (fd : ℤ) (bytes : List ℕ) (pipe : ℕ) (there : List ℕ) → slot w.pipes pipe ≡ Some there →
    HoldsAfter there (slot (before_sweep bounds w process (call.Write fd bytes)).pipes pipe)

-- and so does a resume of a process that waits in a write (page of write)
abbrev pub ResumedWriteLosesNothing : Type 0
ResumedWriteLosesNothing = (bounds : Bounds) (w : World) (process : ℕ) (parked : Parked) (fd : ℤ) (bytes : List ℕ) (d : Decided) (pipe : ℕ) (there : List ℕ) →
    parked_of (slot w.processes process) ≡ Some parked → parked.call ≡ call.Write fd bytes → comes_to bounds w process act.Resume ≡ Some d →
    slot w.pipes pipe ≡ Some there →
    HoldsAfter there (slot (changed w [] d.change).pipes pipe)

-- a write tells a number, and then all its bytes stand after those that the pipe held; or it changes nothing
pub record WholeOrNone (w v : World) (outcome : Outcome) (pipe : ℕ) (bytes : List ℕ) : Type 0 where
  pub number : (n : ℕ) → outcome ≡ Replied (Number n) → n ≡ length bytes
  pub whole : (n : ℕ) → outcome ≡ Replied (Number n) → slot v.pipes pipe ≡ option_map (after_those bytes) (slot w.pipes pipe)
  pub none : ((n : ℕ) → outcome ≢ Replied (Number n)) → v ≡ w

-- under nonblock a write of at most PIPE_BUF bytes to a pipe or FIFO moves all of them or none (page of write)
abbrev pub SmallWriteIsWhole : Type 0
SmallWriteIsWhole = (bounds : Bounds) (w : World) (process : ℕ) (fd : ℤ) (bytes : List ℕ) (o : OpenDescriptor) (pipe : ℕ) → opened w process fd ≡ Some o →
    pipe_at o.description.target ≡ Some pipe → o.description.nonblock ≡ true → length bytes ≤ PIPE_BUF →
    WholeOrNone w (before_sweep bounds w process (call.Write fd bytes)) (outcome_of bounds w process (call.Write fd bytes)) pipe bytes

-- a process that waits in no call is not ready (own)
abbrev pub UnparkedIsNotReady : Type 0
UnparkedIsNotReady = (bounds : Bounds) (w : World) (process : ℕ) → parked_of (slot w.processes process) ≡ None → is_ready bounds w process ≡ false

-- and a resume of it is no step (own)
abbrev pub UnparkedIsNotResumed : Type 0
UnparkedIsNotResumed = (bounds : Bounds) (w : World) (process : ℕ) → parked_of (slot w.processes process) ≡ None → step bounds w process act.Resume ≡ None
