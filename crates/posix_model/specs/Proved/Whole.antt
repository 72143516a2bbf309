-- What is there: nothing refers to what is gone, and each process has its descriptors.
use Rattle.std.specs.Prelude.{◌≡◌, ℕ, Bool, true, false, All, List, Option, None, Some, length}
use Rattle.slots.specs.Slots.{slot}
use Rattle.posix_model.specs.Types.{World, Process, Parked, Description, Target, File, Fifo, OPEN_MAX}
use Rattle.process_table.specs.Proved.Waits.{AsksFew}
use Rattle.posix_model.specs.Counts.{is_pipe, is_file}
use Rattle.posix_model.specs.Pipes.{fifo_at, pipe_of_fifo}
use Rattle.call_types.specs.declared.description.Target.TheVariants as target
use Rattle.posix_model.specs.declared.world.File.TheVariants as file
use Rattle.posix_model.specs.Kept.{IsThere}

-- all that is there has this property (own)
abbrev pub EachThere : {T : Type 0} → (T → Type 0) → List (Option T) → Type 0
EachThere {T} Has slots = (number : ℕ) (x : T) → slot slots number ≡ Some x → Has x

-- whether a regular file stands there (own)
abbrev pub is_regular_file : Option File → Bool
is_regular_file None = false
is_regular_file (Some (file.Regular bytes)) = true
is_regular_file (Some (file.Fifo fifo)) = false

-- whether a FIFO stands there (own)
abbrev pub is_fifo : Option File → Bool
is_fifo None = false
is_fifo (Some (file.Regular bytes)) = false
is_fifo (Some (file.Fifo fifo)) = true

-- what a description refers to is there: a regular file, a pipe, or a FIFO and its pipe (own)
abbrev pub TargetIsThere : List (Option File) → List (Option (List ℕ)) → Target → Type 0
TargetIsThere files pipes (target.Regular file) = is_regular_file (slot files file) ≡ true
TargetIsThere files pipes (target.Pipe pipe) = IsThere pipes pipe
TargetIsThere files pipes (target.Fifo file pipe) = (is_fifo (slot files file) ≡ true) × IsThere pipes pipe

-- if a file is an open FIFO, its pipe is there (own)
abbrev pub PipeIsThere : List (Option (List ℕ)) → File → Type 0
PipeIsThere pipes (file.Regular bytes) = Unit {0}
PipeIsThere pipes (file.Fifo fifo) = (pipe : ℕ) → fifo.pipe ≡ Some pipe → IsThere pipes pipe

-- a FIFO whose pipe this target is an end of is the target's file (own)
abbrev pub IsItsFifo : List (Option File) → Target → Type 0
IsItsFifo files t = (g : ℕ) (x : Fifo) (p : ℕ) → slot files g ≡ Some (file.Fifo x) → x.pipe ≡ Some p → is_pipe p t ≡ true → is_file g t ≡ true

-- an end of a FIFO is on the pipe that the FIFO has (own)
abbrev pub IsOnItsPipe : List (Option File) → Target → Type 0
IsOnItsPipe files (target.Regular file) = Unit {0}
IsOnItsPipe files (target.Pipe pipe) = Unit {0}
IsOnItsPipe files (target.Fifo file pipe) = pipe_of_fifo (fifo_at (slot files file)) ≡ Some pipe

-- no two FIFOs have the same pipe (own)
abbrev pub PipesApart : List (Option File) → Type 0
PipesApart files = (f g : ℕ) (x y : Fifo) (p : ℕ) → slot files f ≡ Some (file.Fifo x) → slot files g ≡ Some (file.Fifo y) → x.pipe ≡ Some p → y.pipe ≡ Some p →
    f ≡ g

-- the call that a process waits in asks for no more bytes than one transfer has (own)
abbrev pub WaitsForFew : Process → Type 0
WaitsForFew process = (parked : Parked) → process.parked ≡ Some parked → AsksFew parked.call

-- nothing refers to what is gone: no name, no description, no FIFO and no descriptor; no two FIFOs have the same pipe, an end of a
-- FIFO's pipe is one of that FIFO, and each end of a FIFO is on its pipe;
-- each process has so many descriptors, and asks for no more bytes than one transfer has in the call that it waits in (own)
pub record IsWhole (w : World) : Type 0 where
  pub names : All (λ entry. IsThere w.files entry.1) w.names
  pub descriptions : EachThere (λ description. TargetIsThere w.files w.pipes description.target) w.descriptions
  pub fifos : EachThere (PipeIsThere w.pipes) w.files
  pub processes : EachThere (λ process. EachThere (IsThere w.descriptions) process.table) w.processes
  pub ends : EachThere (λ description. IsItsFifo w.files description.target) w.descriptions
  pub apart : PipesApart w.files
  pub pipes : EachThere (λ description. IsOnItsPipe w.files description.target) w.descriptions
  pub waits : EachThere WaitsForFew w.processes
  pub tables : EachThere (λ process. length process.table ≡ OPEN_MAX) w.processes

-- what becomes of a description leaves what it is open on, and for what (own)
pub record StaysOpen (edit : Description → Description) : Type 0 where
  pub target : (d : Description) → (edit d).target ≡ d.target
  pub mode : (d : Description) → (edit d).mode ≡ d.mode
