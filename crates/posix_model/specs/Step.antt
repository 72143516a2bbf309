-- One step of the model: an act of an actor in a world.
use Rattle.std.specs.Prelude.{ℕ, List, [], Bool, false, ◌&&◌, ◌==◌, Option, None, Some, length, is_some, not, if◌then◌else◌}
use Rattle.std.specs.Option.{option_map}
use Rattle.posix_model.specs.Given.{data_given}
use Rattle.call_types.specs.declared.act.TheConstants.{HOUSE}
use Rattle.posix_model.specs.Types.{Call, Act, Outcome, Bounds, World, Process, Decided, Replied, ParkedAt, Part}
use Rattle.call_types.specs.declared.call.Call.TheVariants as call
use Rattle.call_types.specs.declared.act.Act.TheVariants as act
use Rattle.slots.specs.Slots.{slot}
use Rattle.process_table.specs.Processes.{is_here}
use Rattle.posix_model.specs.Pages.{decided_by, on_open}
use Rattle.posix_model.specs.Sweep.{sweep}
use Rattle.posix_model.specs.Change.{changed}
use Rattle.posix_model.specs.Descriptors.{opened}
use Rattle.posix_model.specs.Join.{join}
use Rattle.posix_model.specs.Attach.{attach}
use Rattle.posix_model.specs.Exit.{exit, close_run}
use Rattle.posix_model.specs.Open.{open_file}
use Rattle.posix_model.specs.Close.{close}
use Rattle.posix_model.specs.Read.{read}
use Rattle.posix_model.specs.Write.{write}
use Rattle.posix_model.specs.Pread.{pread}
use Rattle.posix_model.specs.Pwrite.{pwrite}
use Rattle.posix_model.specs.Lseek.{lseek}
use Rattle.posix_model.specs.Ftruncate.{ftruncate}
use Rattle.posix_model.specs.Dup.{dup}
use Rattle.posix_model.specs.Dup2.{dup2}
use Rattle.posix_model.specs.Pipe.{pipe}
use Rattle.posix_model.specs.Mkfifo.{mkfifo}
use Rattle.posix_model.specs.Resume.{resume}
use Rattle.posix_model.specs.Link.{link}
use Rattle.posix_model.specs.Unlink.{unlink}
use Rattle.posix_model.specs.Fstat.{fstat}
use Rattle.posix_model.specs.Fork.{fork}
use Rattle.posix_model.specs.Getfl.{getfl}
use Rattle.posix_model.specs.Setfl.{setfl}
use Rattle.posix_model.specs.Rename.{rename}

-- whether a process waits in a call
abbrev pub is_parked : Option Process → Bool
is_parked None = false
is_parked (Some process) = is_some process.parked

-- whether a process may make a call
abbrev pub can_call : Option Process → Bool
can_call process = is_here process && not (is_parked process)

-- what a call comes to, by its page
abbrev pub decided : Bounds → World → ℕ → Call → Decided
decided bounds w process (call.Open name flags) = decided_by (open_file w process name flags)
decided bounds w process (call.Close fd) = on_open (opened w process fd) (close process)
decided bounds w process (call.Read fd count) = on_open (opened w process fd) (read w process (call.Read fd count) count)
decided bounds w process (call.Write fd bytes) = on_open (opened w process fd) (write bounds w process (call.Write fd bytes) bytes)
decided bounds w process (call.Pread fd start count) = on_open (opened w process fd) (pread w start count)
decided bounds w process (call.Pwrite fd start bytes) = on_open (opened w process fd) (pwrite bounds start bytes)
decided bounds w process (call.Lseek fd offset from) = on_open (opened w process fd) (lseek w offset from)
decided bounds w process (call.Ftruncate fd len) = on_open (opened w process fd) (ftruncate bounds len)
decided bounds w process (call.Dup fd) = on_open (opened w process fd) (dup w process)
decided bounds w process (call.Dup2 fd to) = on_open (opened w process fd) (dup2 process to)
decided bounds w process call.Pipe = decided_by (pipe w process)
decided bounds w process (call.Mkfifo name) = decided_by (mkfifo w name)
decided bounds w process (call.Link old new) = decided_by (link w old new)
decided bounds w process (call.Unlink name) = decided_by (unlink w name)
decided bounds w process (call.Fstat fd) = on_open (opened w process fd) (fstat w)
decided bounds w process call.Fork = decided_by (fork w process)
decided bounds w process (call.Getfl fd) = on_open (opened w process fd) getfl
decided bounds w process (call.Setfl fd flags) = on_open (opened w process fd) (setfl flags)
decided bounds w process (call.Rename old new) = decided_by (rename w old new)

-- what an act comes to, or nothing where the rules record none: a join under another number than the next, a call of a
-- process that is not live and attached or that waits in one, a resume of one that is not ready, an exit of a process that
-- is not live, a closing by another than the house or of a run that is closed
abbrev pub comes_to : Bounds → World → ℕ → Act → Option Decided
comes_to bounds w actor act.Join = if actor == length w.processes then Some (decided_by (join w)) else None
comes_to bounds w actor act.Attach = Some (decided_by (attach w actor))
comes_to bounds w actor (act.Call c) = if can_call (slot w.processes actor) then Some (decided bounds w actor c) else None
comes_to bounds w actor act.Resume = resume bounds w actor
comes_to bounds w actor act.Exit = if is_some (slot w.processes actor) then Some (exit actor) else None
comes_to bounds w actor act.CloseRun = if actor == HOUSE && not w.closed then Some close_run else None

-- the bytes that an act gives: the data of a call that writes
abbrev pub given : Act → List ℕ
given (act.Call c) = data_given c
given other = []

-- the world after a step, and what is recorded of it
pub record Stepped : Type 0 where
  pub world : World
  pub outcome : Outcome

-- what was decided is made, and what nothing refers to any more goes
abbrev pub stepped : World → List ℕ → Decided → Stepped
stepped w bytes d = record { world = sweep (changed w bytes d.change); outcome = d.outcome }

-- one step, or nothing where the rules record none
abbrev pub step : Bounds → World → ℕ → Act → Option Stepped
step bounds w actor act = option_map (stepped w (given act)) (comes_to bounds w actor act)

-- what the model gives of an act in a world, if it records any
abbrev pub outcome_of : Bounds → World → ℕ → Act → Option Outcome
outcome_of bounds w actor act = option_map (λ s. s.outcome) (step bounds w actor act)

-- a call has ended, or it waits
abbrev pub EndsOrWaits : Outcome → Type 0
EndsOrWaits (Replied reply) = Unit {0}
EndsOrWaits (ParkedAt moved) = Unit {0}
EndsOrWaits (Part moved) = ⊥

-- a call that waited has ended, or it goes on waiting
abbrev pub EndsOrGoesOn : Outcome → Type 0
EndsOrGoesOn (Replied reply) = Unit {0}
EndsOrGoesOn (ParkedAt moved) = ⊥
EndsOrGoesOn (Part moved) = Unit {0}
