-- What a description holds: a file, a pipe, or both.
use Rattle.std.specs.Prelude.{◌≡◌, ℕ, true, List, Option, None, Some, is_some}
use Rattle.slots.specs.Slots.{slot, edited}
use Rattle.slots.specs.Proved.Uses.{with_value}
use Rattle.machine_state.specs.Proved.Types.{World, Target, Dropped, Used, StoredFile, StoredPipe}
use Rattle.posix_model.specs.Proved.Whole.{EachThere, IsItsFifo}
use Rattle.posix_model.specs.Pipes.{pipe_at}
use Rattle.machine_state.specs.Proved.Uses.{without_use, lost}
use Rattle.file_table.specs.Proved.Files.{forgetful}
use Rattle.pipe_table.specs.Proved.Pipes.{HasEndAt}
use Rattle.machine_state.specs.Proved.Pipes.{counted_less}
use Rattle.call_types.specs.declared.description.Target.TheVariants as target
use Rattle.description_table.specs.declared.Dropped.TheVariants.{Still, Gone}

-- the file that a target holds, if it holds one
abbrev pub file_of_target : Target → Option ℕ
file_of_target (target.Regular file) = Some file
file_of_target (target.Pipe pipe) = None
file_of_target (target.Fifo file pipe) = Some file

-- the pipes after a description went
abbrev pub pipes_left : Dropped → List (Option (Used StoredPipe)) → List (Option (Used StoredPipe))
pipes_left Still pipes = pipes
pipes_left (Gone target mode) pipes = without_use (pipe_at target) (counted_less (pipe_at target) mode pipes)

-- the pipe that goes with a description, if it was the last end
abbrev pub pipe_gone : Dropped → List (Option (Used StoredPipe)) → Option StoredPipe
pipe_gone Still pipes = None
pipe_gone (Gone target mode) pipes = lost (pipe_at target) (counted_less (pipe_at target) mode pipes)

-- the files after the FIFO of a target forgot its pipe
abbrev pub forgotten : Target → List (Option (Used StoredFile)) → List (Option (Used StoredFile))
forgotten (target.Regular file) files = files
forgotten (target.Pipe pipe) files = files
forgotten (target.Fifo file pipe) files = edited file (with_value (forgetful pipe)) files

-- the files after a FIFO forgot its pipe, if that went
abbrev pub forgot : Option StoredPipe → Target → List (Option (Used StoredFile)) → List (Option (Used StoredFile))
forgot None target files = files
forgot (Some pipe) target files = forgotten target files

-- the files after a description went, and a pipe with it or none
abbrev pub files_left : Dropped → Option StoredPipe → List (Option (Used StoredFile)) → List (Option (Used StoredFile))
files_left Still pipe files = files
files_left (Gone target mode) pipe files = without_use (file_of_target target) (forgot pipe target files)

-- what a description that goes held is there
abbrev pub CanLeave : Dropped → List (Option (Used StoredPipe)) → List (Option (Used StoredFile)) → Type 0
CanLeave Still pipes files = Unit {0}
CanLeave (Gone target mode) pipes files =
    ((number : ℕ) → pipe_at target ≡ Some number → HasEndAt pipes mode number) × ((number : ℕ) → file_of_target target ≡ Some number →
    is_some (slot files number) ≡ true)

-- an end of a FIFO's pipe is one of that FIFO
abbrev pub EndsAreTheirs : World → Type 0
EndsAreTheirs w = EachThere (λ description. IsItsFifo w.files description.target) w.descriptions
