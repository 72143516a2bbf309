-- What goes where one description loses a reference, or one file a name: it and what it alone held, and no other.
use Rattle.std.specs.Prelude.{◌≡◌, ◌≢◌, ℕ, ◌<◌, List, Option, None, Some, slice_set, if◌then◌else◌}
use Rattle.slots.specs.Slots.{slot}
use Rattle.call_types.specs.Names.{Entries}
use Rattle.posix_model.specs.Counts.{links, refs}
use Rattle.posix_model.specs.Proved.Whole.{IsItsFifo}
use Rattle.posix_model.specs.Sweep.{is_referred, is_open, is_wanted, without_gone_pipe, sweep}
use Rattle.posix_model.specs.Types.{World, Process, Description, Target, File}
use Rattle.call_types.specs.declared.description.Target.TheVariants as target
use Rattle.posix_model.specs.Kept.{IsSettled}

-- a description goes where nothing refers to it
abbrev pub released_descriptions : List (Option Process) → List (Option Description) → ℕ → List (Option Description)
released_descriptions ps ds n = if is_referred ps n then ds else slice_set ds n None

-- a pipe goes where no end is open
abbrev pub released_pipe : {T : Type 0} → List (Option Description) → List (Option T) → ℕ → List (Option T)
released_pipe ds pipes p = if is_open ds p then pipes else slice_set pipes p None

-- a file goes where it has no name and no holder
abbrev pub released_file : Entries → List (Option Description) → List (Option File) → ℕ → List (Option File)
released_file ns ds files f = if is_wanted ns ds f then files else slice_set files f None

-- the pipe that a target is an end of, after a release
abbrev pub pipes_after : {T : Type 0} → List (Option Description) → List (Option T) → Target → List (Option T)
pipes_after ds pipes (target.Regular f) = pipes
pipes_after ds pipes (target.Pipe p) = released_pipe ds pipes p
pipes_after ds pipes (target.Fifo f p) = released_pipe ds pipes p

-- the FIFO that a target is an end of forgets its pipe, if that is gone
abbrev pub fifos_after : List (Option Description) → List (Option File) → Target → List (Option File)
fifos_after ds files (target.Regular f) = files
fifos_after ds files (target.Pipe p) = files
fifos_after ds files (target.Fifo f p) = slice_set files f (without_gone_pipe ds (slot files f))

-- the file that a target is on, after a release
abbrev pub files_after : Entries → List (Option Description) → List (Option File) → Target → List (Option File)
files_after ns ds files (target.Regular f) = released_file ns ds files f
files_after ns ds files (target.Pipe p) = files
files_after ns ds files (target.Fifo f p) = released_file ns ds files f

-- a world in which a description of this target has lost a reference
abbrev pub released : World → ℕ → Target → World
released w n t =
    let ds = released_descriptions w.processes w.descriptions n in
    record w { descriptions = ds; pipes = pipes_after ds w.pipes t; files = files_after w.names ds (fifos_after ds w.files t) t }

abbrev pub SweptIsSettled : Type 0
SweptIsSettled = (w : World) → sweep w ≡ w → IsSettled w

-- the other descriptions are referred to as before
abbrev pub StaysBut : ℕ → List (Option Process) → List (Option Process) → Type 0
StaysBut n ps qs = (d : ℕ) → d ≢ n → 0 < refs ps d → 0 < refs qs d

-- after a change of one description's references, the sweep takes it and what it alone held, or nothing
abbrev pub SweepReleases : Type 0
SweepReleases = (w : World) (ps : List (Option Process)) (n : ℕ) (d : Description) → IsSettled w → slot w.descriptions n ≡ Some d → IsItsFifo w.files d.target →
    StaysBut n w.processes ps → sweep (record w { processes = ps }) ≡ released (record w { processes = ps }) n d.target

-- a settled world is its own sweep
abbrev pub SettledStays : Type 0
SettledStays = (w : World) → IsSettled w → sweep w ≡ w

-- after a change of one file's names, the sweep takes that file at most
abbrev pub NamesRelease : Type 0
NamesRelease = (w : World) (names : Entries) (f : ℕ) → IsSettled w → ((g : ℕ) → g ≢ f → 0 < links w.names g → 0 < links names g) →
    sweep (record w { names = names }) ≡ record w { names = names; files = released_file names w.descriptions w.files f }

-- a sweep sees of names only how many each file has
abbrev pub SweepCounts : Type 0
SweepCounts = (w : World) (names : Entries) → ((g : ℕ) → links names g ≡ links w.names g) → sweep (record w { names = names }) ≡ record
    (sweep w) { names = names }
