-- Whom an event may have made ready, of those that sleep (own).
use Rattle.std.specs.Prelude.{◌≡◌, ℕ, pos, ◌==◌, ◌||◌, Bool, true, false, Option, None, Some, is_some, Result, Ok, Err}
use Rattle.call_types.specs.declared.call.Call.TheVariants as call
use Rattle.call_types.specs.declared.refusal.Refusal.{Refusal}
use Rattle.record_book.specs.Seat.{Receipted}
use Rattle.slots.specs.Slots.{slot}
use Rattle.process_table.specs.Processes.{parked_of}
use Rattle.posix_model.specs.Types.{Call, Outcome, Bounds, Parked, Replied, Error}
use Rattle.posix_model.specs.declared.world.World.{World}
use Rattle.posix_model.specs.declared.opened.OpenDescriptor.{OpenDescriptor}
use Rattle.posix_model.specs.Descriptors.{opened}
use Rattle.posix_model.specs.Pipes.{pipe_at}
use Rattle.posix_model.specs.Resume.{is_ready}
use Rattle.system_lock.specs.declared.stirred.Stirred.{Stirred}
use Rattle.system_lock.specs.declared.stirred.Stirred.TheVariants as stirred

-- the pipe that a descriptor leads to, if it is open on one
abbrev pub pipe_of : Option OpenDescriptor → Option ℕ
pipe_of None = None
pipe_of (Some o) = pipe_at o.description.target

-- the pipe on which a call waits
abbrev pub pipe_for : World → ℕ → Option Parked → Option ℕ
pipe_for w process None = None
pipe_for w process (Some parked) = pipe_of (opened w process (pos parked.fd))

-- the pipe on which the call of a process waits, if it waits in one
abbrev pub pipe_waited : World → ℕ → Option ℕ
pipe_waited w process = pipe_for w process (parked_of (slot w.processes process))

-- whether an event is one of this process
abbrev pub is_by : Stirred → ℕ → Bool
is_by stirred.Nobody process = false
is_by (stirred.Around other pipe) process = other == process
is_by (stirred.Anybody other) process = other == process

-- whether an event may be one of this pipe
abbrev pub is_on : Stirred → ℕ → Bool
is_on stirred.Nobody pipe = false
is_on (stirred.Around process other) pipe = other == pipe
is_on (stirred.Anybody process) pipe = true

-- whether an event may be one of the pipe on which a call waits
abbrev pub is_on_its : Stirred → Option ℕ → Bool
is_on_its s None = false
is_on_its s (Some pipe) = is_on s pipe

-- whether an event may have made a process ready that waits on this pipe
abbrev pub stirs : Stirred → ℕ → Option ℕ → Bool
stirs s process pipe = is_by s process || is_on_its s pipe

-- whom an event of a process on this pipe stirs, or on none
abbrev pub stirred_at : ℕ → Option ℕ → Stirred
stirred_at process None = stirred.Nobody
stirred_at process (Some pipe) = stirred.Around process pipe

-- whom a call may stir
abbrev pub stirred_by : World → ℕ → Call → Stirred
stirred_by w process (call.Read fd count) = stirred_at process (pipe_of (opened w process fd))
stirred_by w process (call.Write fd bytes) = stirred_at process (pipe_of (opened w process fd))
stirred_by w process (call.Open name flags) = stirred.Anybody process
stirred_by w process (call.Close fd) = stirred.Anybody process
stirred_by w process (call.Dup fd) = stirred.Anybody process
stirred_by w process (call.Dup2 fd to) = stirred.Anybody process
stirred_by w process call.Pipe = stirred.Anybody process
stirred_by w process (call.Mkfifo name) = stirred.Anybody process
stirred_by w process (call.Link from to) = stirred.Anybody process
stirred_by w process (call.Unlink name) = stirred.Anybody process
stirred_by w process (call.Rename from to) = stirred.Anybody process
stirred_by w process call.Fork = stirred.Anybody process
stirred_by w process other = stirred.Nobody

-- whom a call stirs that has this outcome: an error stirs nobody
abbrev pub stirred_with : Outcome → Stirred → Stirred
stirred_with (Replied (Error error)) s = stirred.Nobody
stirred_with other s = s

-- whom a call stirs of which this was told: one that is refused stirs nobody
abbrev pub stirred_told : Result Receipted Refusal → Stirred → Stirred
stirred_told (Ok receipt) s = stirred_with receipt.record_is.outcome s
stirred_told (Err refusal) s = stirred.Nobody

-- whom an event does not stir is as ready after it as before; and all but its own process wait on the same pipes, and live on
pub record Spares (bounds : Bounds) (w v : World) (s : Stirred) : Type 0 where
  pub ready : (process : ℕ) → stirs s process (pipe_waited w process) ≡ false → is_ready bounds v process ≡ is_ready bounds w process
  pub pipe : (process : ℕ) → is_by s process ≡ false → pipe_waited v process ≡ pipe_waited w process
  pub live : (process : ℕ) → is_by s process ≡ false → is_some (slot w.processes process) ≡ true → is_some (slot v.processes process) ≡ true
