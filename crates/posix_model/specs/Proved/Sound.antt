-- What holds of all that acts come to: one record, which is proved by one lemma for each call.
use Rattle.std.specs.Prelude.{◌≡◌, ℕ, ◌+◌, ◌≤◌, Bool, true, false, List, [], Option, None, Some, length, is_some, is_none, ◌&&◌, if◌then◌else◌, ℤ}
use Rattle.std.specs.Option.{option_map_or, option_map}
use Rattle.call_types.specs.CallTable.{descriptor_of, payload_of}
use Rattle.posix_model.specs.Types.{Call, Act, Outcome, Errno, Bounds, World, DescriptionEdit, FileEdit, ProcessEdit, TableEdit, Change, Decided, OPEN_MAX, NAMES_MAX, DESCRIPTIONS_MAX, PROCESSES_MAX, OFFSET_MAX, TRANSFER_MAX, Replied, Error, Number}
use Rattle.call_types.specs.declared.act.Act.TheVariants as act
use Rattle.call_types.specs.declared.call.Call.TheVariants as call
use Rattle.slots.specs.Slots.{live}
use Rattle.posix_model.specs.Proved.Whole.{IsWhole, EachThere}
use Rattle.posix_model.specs.Kept.{IsThere}
use Rattle.posix_model.specs.Descriptors.{bytes_of, held_in, opened}
use Rattle.posix_model.specs.Pages.{no_change}
use Rattle.posix_model.specs.Join.{is_full}
use Rattle.posix_model.specs.Proved.Fits.{Fits, IsProper, PutsWithin}
use Rattle.posix_model.specs.Given.{data_given}
use Rattle.posix_model.specs.Step.{given, decided, comes_to}
use Rattle.posix_model.specs.Turns.{turn, took, data_in}
use Rattle.posix_model.specs.declared.change.FileEdit.TheVariants as on_files
use Rattle.posix_model.specs.declared.change.ProcessEdit.TheVariants as on_process
use Rattle.posix_model.specs.declared.change.TableEdit.TheVariants as on_table
use Rattle.call_types.specs.declared.description.DescriptionEdit.TheVariants as on_description

-- how many processes an edit makes
abbrev pub makes : ProcessEdit → ℕ
makes (on_process.Add table attached) = 1
makes other = 0

-- how many processes an edit ends
abbrev pub ended_by : ProcessEdit → ℕ
ended_by (on_process.Exit process) = 1
ended_by other = 0

-- whether an edit closes the run
abbrev pub closed_by : ProcessEdit → Bool
closed_by on_process.Close = true
closed_by other = false

-- how many processes an act adds, by its outcome: a join or a fork that is not refused adds one
abbrev pub added : Act → Outcome → ℕ
added act.Join (Replied (Number n)) = 1
added (act.Call call.Fork) (Replied (Number n)) = 1
added other outcome = 0

-- how many processes an act ends
abbrev pub ended : Act → ℕ
ended act.Exit = 1
ended other = 0

-- whether an act closes the run
abbrev pub closes : Act → Bool
closes act.CloseRun = true
closes other = false

-- whether an act takes up a call that waits; its refusal ends that call (own)
abbrev pub is_resume : Act → Bool
is_resume act.Resume = true
is_resume other = false

-- how many bytes of data an act may be told: none where it gives data itself, or is on no descriptor
abbrev pub data_most : Act → ℕ
data_most (act.Call c) = if is_some (descriptor_of c) && is_none (payload_of c) then TRANSFER_MAX else 0
data_most act.Resume = TRANSFER_MAX
data_most other = 0

-- the data that an act is to take bytes from: that of its own call, or of the one that its process waits in
abbrev pub data_of : World → ℕ → Act → List ℕ
data_of w actor act = option_map_or (λ t. data_given t.call) (turn w actor act) []

-- how many processes an act is to add, before its outcome is known
abbrev pub adds : World → Act → ℕ
adds w act.Join = if is_full w then 0 else 1
adds w (act.Call call.Fork) = if is_full w then 0 else 1
adds w other = 0

-- what an edit of processes adds, ends and closes is what its act tells, and what it ends is there
pub record IsTold (w : World) (act : Act) (outcome : Outcome) (edit : ProcessEdit) : Type 0 where
  pub added : makes edit ≡ added act outcome
  pub planned : makes edit ≡ adds w act
  pub ended : ended_by edit ≡ ended act
  pub closed : closed_by edit ≡ closes act
  pub there : (process : ℕ) → edit ≡ on_process.Exit process → IsThere w.processes process

-- the number of the description that an edit gives another offset, or other flags
abbrev pub described_in : TableEdit → Option ℕ
described_in (on_table.Describe number edit) = Some number
described_in other = None

-- the number of the open file description that a descriptor leads to, if it is open (XBD 3, File Descriptor)
abbrev pub number_of : World → ℕ → ℤ → Option ℕ
number_of w process fd = option_map (λ o. o.number) (opened w process fd)

-- the number of the description that the descriptor of an act leads to (XBD 3, File Descriptor)
abbrev pub number_at : World → ℕ → Act → Option ℕ
number_at w actor (act.Call c) = option_map_or (number_of w actor) (descriptor_of c) None
number_at w actor other = None

-- whether an act may change a file or a name, but for what a sweep takes
abbrev pub may_change_files : Act → Bool
may_change_files (act.Call (call.Open name flags)) = true
may_change_files (act.Call (call.Write fd bytes)) = true
may_change_files (act.Call (call.Pwrite fd start bytes)) = true
may_change_files (act.Call (call.Ftruncate fd len)) = true
may_change_files (act.Call (call.Mkfifo name)) = true
may_change_files (act.Call (call.Link old new)) = true
may_change_files (act.Call (call.Unlink name)) = true
may_change_files (act.Call (call.Rename old new)) = true
may_change_files other = false

-- whether an act may change a pipe, but for what a sweep takes
abbrev pub may_change_pipes : Act → Bool
may_change_pipes (act.Call (call.Open name flags)) = true
may_change_pipes (act.Call (call.Read fd count)) = true
may_change_pipes (act.Call (call.Write fd bytes)) = true
may_change_pipes (act.Call call.Pipe) = true
may_change_pipes act.Resume = true
may_change_pipes other = false

-- whether an edit of files is one of pipes alone
abbrev pub is_of_pipes : FileEdit → Bool
is_of_pipes (on_files.Put pipe source count) = true
is_of_pipes (on_files.Take pipe count) = true
is_of_pipes other = false

-- whether an edit of descriptors makes a pipe
abbrev pub makes_pipe : TableEdit → Bool
makes_pipe (on_table.OpenPair process reading writing) = true
makes_pipe other = false

-- whether an edit of descriptors opens an end of a FIFO
abbrev pub opens_fifo : TableEdit → Bool
opens_fifo (on_table.OpenEnd process fd file description) = true
opens_fifo other = false

-- a change leaves the files and the names, but for what a sweep takes
pub record LeavesFiles (c : Change) : Type 0 where
  pub files : is_of_pipes c.files ≡ false → c.files ≡ on_files.Nothing
  pub table : opens_fifo c.table ≡ false

-- a change leaves the pipes, but for what a sweep takes
pub record LeavesPipes (c : Change) : Type 0 where
  pub files : is_of_pipes c.files ≡ false
  pub made : makes_pipe c.table ≡ false
  pub opened : opens_fifo c.table ≡ false

-- no file is too long, no pipe holds too much, no offset is too great, each process has so many descriptors, and there are no more names, live
-- descriptions and live processes than there may be (own)
pub record WithinLimits (bounds : Bounds) (w : World) : Type 0 where
  pub files : (file : ℕ) → length (bytes_of w file) ≤ bounds.file_size
  pub pipes : (pipe : ℕ) → held_in w pipe ≤ bounds.pipe_capacity
  pub offsets : EachThere (λ description. description.offset ≤ OFFSET_MAX) w.descriptions
  pub tables : EachThere (λ process. length process.table ≡ OPEN_MAX) w.processes
  pub names : length w.names ≤ NAMES_MAX
  pub descriptions : live w.descriptions ≤ DESCRIPTIONS_MAX
  pub processes : live w.processes ≤ PROCESSES_MAX

-- an edit of files goes past no size limit
abbrev pub FilesWithin : Bounds → FileEdit → Type 0
FilesWithin bounds (on_files.Bytes file start count) = start + count ≤ bounds.file_size
FilesWithin bounds (on_files.Resize file len) = len ≤ bounds.file_size
FilesWithin bounds other = Unit {0}

-- an edit of a description goes past no greatest offset
abbrev pub EditWithin : DescriptionEdit → Type 0
EditWithin (on_description.Offset offset) = offset ≤ OFFSET_MAX
EditWithin other = Unit {0}

-- an edit of descriptors goes past no greatest offset
abbrev pub TableWithin : TableEdit → Type 0
TableWithin (on_table.Describe number edit) = EditWithin edit
TableWithin (on_table.Open process fd description) = description.offset ≤ OFFSET_MAX
TableWithin (on_table.OpenEnd process fd file description) = description.offset ≤ OFFSET_MAX
TableWithin other = Unit {0}

-- what an act comes to: a refusal changes nothing, but for that of a resume, which ends the call that waited; it adds and ends as many
-- processes as it tells; it moves no offset and sets no flags but those that its own descriptor leads to; it changes no file, name or pipe where it may not; it takes no
-- more bytes than its call gives, and is told no more than it may be; it puts no more into a pipe than it has room for; and its change can
-- be made, within all limits. The limit of sizes is at most the greatest offset
pub record Sound (bounds : Bounds) (w : World) (actor : ℕ) (act : Act) (d : Decided) : Type 0 where
  pub refusal : is_resume act ≡ false → (error : Errno) → d.outcome ≡ Replied (Error error) → d.change ≡ no_change
  pub processes : IsTold w act d.outcome d.change.process
  pub own : (n : ℕ) → described_in d.change.table ≡ Some n → number_at w actor act ≡ Some n
  pub files : may_change_files act ≡ false → LeavesFiles d.change
  pub pipes : may_change_pipes act ≡ false → LeavesPipes d.change
  pub brief : IsWhole w → length (data_in d.outcome) ≤ data_most act
  pub few : took w (record { actor = actor; act = act; outcome = d.outcome }) ≤ length (data_of w actor act)
  pub puts : PutsWithin bounds.pipe_capacity w d.change.files
  pub proper : bounds.file_size ≤ OFFSET_MAX → IsProper w (given act) d.change
  pub fits : IsWhole w → Fits w (given act) d.change
  pub within_files : FilesWithin bounds d.change.files
  pub within_table : bounds.file_size ≤ OFFSET_MAX → WithinLimits bounds w → TableWithin d.change.table

-- what every call comes to is sound, also where its process is not there
abbrev pub CallsAreSound : Type 0
CallsAreSound = (bounds : Bounds) (w : World) (process : ℕ) (c : Call) → Sound bounds w process (act.Call c) (decided bounds w process c)

-- all that acts come to is sound
abbrev pub ActsAreSound : Type 0
ActsAreSound = (bounds : Bounds) (w : World) (actor : ℕ) (act : Act) (d : Decided) → comes_to bounds w actor act ≡ Some d → Sound bounds w actor act d
