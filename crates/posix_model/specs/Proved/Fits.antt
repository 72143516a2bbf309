-- What a change asks of the world that it is made in.
use Rattle.std.specs.Prelude.{◌≡◌, ◌≢◌, ℕ, ◌+◌, ◌-◌, ◌≤◌, ◌<◌, Bool, true, false, List, Option, None, Some, length, is_some, unwrap_or}
use Rattle.slots.specs.Slots.{slot, live}
use Rattle.call_types.specs.Names.{file_of}
use Rattle.posix_model.specs.Proved.Whole.{EachThere, is_regular_file, is_fifo, TargetIsThere, IsItsFifo, IsOnItsPipe}
use Rattle.posix_model.specs.Kept.{IsThere}
use Rattle.process_table.specs.Proved.Waits.{AsksFew}
use Rattle.posix_model.specs.Descriptors.{held_in}
use Rattle.posix_model.specs.Pipes.{fifo_at, pipe_between}
use Rattle.call_types.specs.declared.description.Target.TheVariants as target
use Rattle.posix_model.specs.Change.{bytes_from, with_files, with_processes}
use Rattle.posix_model.specs.Types.{World, Process, Parked, Description, NameEdit, FileEdit, ProcessEdit, TableEdit, Change, OPEN_MAX, OFFSET_MAX, TRANSFER_MAX, NAMES_MAX, DESCRIPTIONS_MAX, PROCESSES_MAX}
use Rattle.posix_model.specs.declared.change.NameEdit.TheVariants as on_names
use Rattle.posix_model.specs.declared.change.FileEdit.TheVariants as on_files
use Rattle.posix_model.specs.declared.change.ProcessEdit.TheVariants as on_process
use Rattle.posix_model.specs.declared.change.TableEdit.TheVariants as on_table

-- a process has this free descriptor
pub record IsFree (w : World) (p fd : ℕ) : Type 0 where
  pub process : Process
  pub process_is : slot w.processes p ≡ Some process
  pub within : fd < length process.table
  pub free : slot process.table fd ≡ None

-- what is opened is there, and so is the free descriptor
pub record CanOpen (w : World) (p fd : ℕ) (description : Description) : Type 0 where
  pub free : IsFree w p fd
  pub there : TargetIsThere w.files w.pipes description.target

-- a process has this descriptor, and what it is to refer to is there
pub record CanSet (w : World) (p fd : ℕ) (entry : Option ℕ) : Type 0 where
  pub process : Process
  pub process_is : slot w.processes p ≡ Some process
  pub within : fd < length process.table
  pub there : (n : ℕ) → entry ≡ Some n → IsThere w.descriptions n

-- a process has these two free descriptors
pub record CanOpenPair (w : World) (p reading writing : ℕ) : Type 0 where
  pub first : IsFree w p reading
  pub second : IsFree w p writing
  pub apart : reading ≢ writing

-- what is opened is a FIFO that is there, on its pipe, and so is the free descriptor
pub record CanOpenEnd (w : World) (p fd number : ℕ) (description : Description) : Type 0 where
  pub free : IsFree w p fd
  pub there : is_fifo (slot w.files number) ≡ true
  pub target_is : description.target ≡ target.Fifo number (pipe_between w (fifo_at (slot w.files number)))

-- what an edit of names asks to be there
abbrev pub NamesFit : World → NameEdit → Type 0
NamesFit w (on_names.Add name file) = IsThere w.files file
NamesFit w (on_names.Remove name) = is_some (file_of name w.names) ≡ true
NamesFit w (on_names.Move old new) = IsThere w.files (unwrap_or (file_of old w.names) 0)

-- what an edit of files asks to be there
abbrev pub FilesFit : World → FileEdit → Type 0
FilesFit w (on_files.Bytes file start count) = is_regular_file (slot w.files file) ≡ true
FilesFit w (on_files.Resize file len) = is_regular_file (slot w.files file) ≡ true
FilesFit w (on_files.Names edit) = NamesFit w edit
FilesFit w (on_files.Put pipe source count) = IsThere w.pipes pipe
FilesFit w (on_files.Take pipe count) = IsThere w.pipes pipe
FilesFit w other = Unit {0}

-- a new process has as many descriptors as any, and they refer to what is there
pub record CanAdd (w : World) (table : List (Option ℕ)) : Type 0 where
  pub there : EachThere (IsThere w.descriptions) table
  pub all : length table ≡ OPEN_MAX

-- a process is there, and waits for no more bytes than one transfer has
pub record CanPark (w : World) (p : ℕ) (parked : Parked) : Type 0 where
  pub there : IsThere w.processes p
  pub few : AsksFew parked.call

-- what an edit of processes asks to be there
abbrev pub ProcessFits : World → ProcessEdit → Type 0
ProcessFits w on_process.Nothing = Unit {0}
ProcessFits w (on_process.Add table attached) = CanAdd w table
ProcessFits w (on_process.Attach process) = IsThere w.processes process
ProcessFits w (on_process.Park process parked) = CanPark w process parked
ProcessFits w (on_process.Total process moved) = IsThere w.processes process
ProcessFits w (on_process.Unpark process) = IsThere w.processes process
ProcessFits w (on_process.Exit process) = IsThere w.processes process
ProcessFits w on_process.Close = Unit {0}

-- what an edit of descriptors asks to be there
abbrev pub TableFits : World → TableEdit → Type 0
TableFits w on_table.Nothing = Unit {0}
TableFits w (on_table.Describe number edit) = IsThere w.descriptions number
TableFits w (on_table.Open process fd description) = CanOpen w process fd description × IsItsFifo w.files description.target × IsOnItsPipe w.files
    description.target
TableFits w (on_table.OpenPair process reading writing) = CanOpenPair w process reading writing
TableFits w (on_table.OpenEnd process fd file description) = CanOpenEnd w process fd file description
TableFits w (on_table.Entry process fd entry) = CanSet w process fd entry

-- whether an edit is one of names, with which a file may go
abbrev pub is_of_names : FileEdit → Bool
is_of_names (on_files.Names edit) = true
is_of_names other = false

-- whether an edit ends a process, with which its descriptions may go
abbrev pub ends : ProcessEdit → Bool
ends (on_process.Exit process) = true
ends other = false

-- what a change asks to be there, each edit in the world after the one before it; names change alone, and a process goes alone
pub record Fits (w : World) (bytes : List ℕ) (c : Change) : Type 0 where
  pub files : FilesFit w c.files
  pub process : ProcessFits (with_files w bytes c.files) c.process
  pub table : TableFits (with_processes (with_files w bytes c.files) c.process) c.table
  pub alone : is_of_names c.files ≡ true → (c.process ≡ on_process.Nothing) × (c.table ≡ on_table.Nothing)
  pub goes_alone : ends c.process ≡ true → (c.files ≡ on_files.Nothing) × (c.table ≡ on_table.Nothing)

-- a name is new, and there is room for it
abbrev pub IsNewName : World → List ℕ → Type 0
IsNewName w name = (file_of name w.names ≡ None) × (length w.names < NAMES_MAX)

-- a name is there, and is another than the one that its file is to have
pub record CanMove (w : World) (old new : List ℕ) : Type 0 where
  pub there : is_some (file_of old w.names) ≡ true
  pub apart : old ≢ new

-- what an edit of names asks of them
abbrev pub NamesProper : World → NameEdit → Type 0
NamesProper w (on_names.Add name file) = IsNewName w name
NamesProper w (on_names.Remove name) = Unit {0}
NamesProper w (on_names.Move old new) = CanMove w old new

-- what an edit of files asks of its numbers: no more bytes than the act gives and than one transfer has, no position past the
-- greatest offset, and room for a name that is new
abbrev pub FilesProper : World → List ℕ → FileEdit → Type 0
FilesProper w bytes on_files.Nothing = Unit {0}
FilesProper w bytes (on_files.Bytes file start count) = (count ≤ length bytes) × (start + count ≤ OFFSET_MAX) × (count ≤ TRANSFER_MAX)
FilesProper w bytes (on_files.Resize file len) = len ≤ OFFSET_MAX
FilesProper w bytes (on_files.Names edit) = NamesProper w edit
FilesProper w bytes (on_files.MakeFile name) = IsNewName w name
FilesProper w bytes (on_files.MakeFifo name) = IsNewName w name
FilesProper w bytes (on_files.Put pipe source count) = count ≤ length (bytes_from w bytes source)
FilesProper w bytes (on_files.Take pipe count) = Unit {0}

-- what is put into a pipe fits, where each pipe holds so many bytes
abbrev pub PutsWithin : ℕ → World → FileEdit → Type 0
PutsWithin capacity w (on_files.Put pipe source count) = count ≤ capacity - held_in w pipe
PutsWithin capacity w other = Unit {0}

-- what an edit of processes asks: room for one more
abbrev pub ProcessProper : World → ProcessEdit → Type 0
ProcessProper w on_process.Nothing = Unit {0}
ProcessProper w (on_process.Add table attached) = live w.processes < PROCESSES_MAX
ProcessProper w other = Unit {0}

-- what an edit of descriptors asks: room for one more description, or for two
abbrev pub TableProper : World → TableEdit → Type 0
TableProper w (on_table.Open process fd description) = live w.descriptions < DESCRIPTIONS_MAX
TableProper w (on_table.OpenPair process reading writing) = live w.descriptions + 2 ≤ DESCRIPTIONS_MAX
TableProper w (on_table.OpenEnd process fd file description) = live w.descriptions < DESCRIPTIONS_MAX
TableProper w other = Unit {0}

-- what a change asks of its numbers
pub record IsProper (w : World) (bytes : List ℕ) (c : Change) : Type 0 where
  pub files : FilesProper w bytes c.files
  pub process : ProcessProper w c.process
  pub table : TableProper w c.table
