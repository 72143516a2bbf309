-- What holds of the calls on files, in words that the pages use.
use Rattle.std.specs.Prelude.{◌≡◌, ◌≢◌, ℕ, ℤ, pos, ◌+◌, ◌-◌, ◌+ℤ◌, ◌≤◌, ◌<◌, ◌⊎◌, Bool, true, false, max, min, List, [], ◌∷◌, ◌++◌, Option, None, Some, length, take, slice_index, slice_set}
use Rattle.call_types.specs.Flags.{has}
use Rattle.call_types.specs.Flags as flag
use Rattle.plain_world.specs.Proved.Types.{Act, Call, Outcome, Decided, OpenFlags, Bounds, World, Description, Mode, Target, Fifo, OpenDescriptor, Replied, Number, Done}
use Rattle.call_types.specs.declared.act.Act.TheVariants as act
use Rattle.call_types.specs.declared.call.Call.TheVariants as call
use Rattle.call_types.specs.declared.whence.Whence.{Whence}
use Rattle.call_types.specs.declared.whence.Whence.TheVariants.{Set, Cur, End}
use Rattle.posix_model.specs.Bytes.{splice, resized}
use Rattle.call_types.specs.Names.{file_of}
use Rattle.slots.specs.Slots.{slot}
use Rattle.posix_model.specs.Positions.{bytes_before, is_regular}
use Rattle.posix_model.specs.Pipes.{fifo_at, pipe_between}
use Rattle.call_types.specs.Descriptions.{at_offset, can_read, can_write}
use Rattle.posix_model.specs.Descriptors.{opened, bytes_of}
use Rattle.posix_model.specs.Proved.Whole.{is_regular_file}
use Rattle.posix_model.specs.Write.{write_start}
use Rattle.posix_model.specs.Open.{mode_of}
use Rattle.posix_model.specs.Proved.Sound.{may_change_files, may_change_pipes}
use Rattle.posix_model.specs.Change.{changed}
use Rattle.posix_model.specs.Step.{given, comes_to}
use Rattle.posix_model.specs.Types.{Data}
use Rattle.posix_model.specs.declared.world.File.TheVariants as file
use Rattle.call_types.specs.declared.description.Target.TheVariants as target
use Rattle.plain_world.specs.Proved.Calls.{outcome_of, before_sweep, IsNoError}
use Rattle.plain_world.specs.Proved.DescriptorLaws.{GivesLowest}

-- the bytes after a write: the new ones where they were put, else those that were there, else zeros (page of write)
pub record Spliced (bytes : List ℕ) (start : ℕ) (new : List ℕ) : Type 0 where
  pub size : length (splice bytes start new) ≡ max (length bytes) (start + length new)
  pub inside : (i : ℕ) → start ≤ i → i < start + length new → slice_index (splice bytes start new) i ≡ slice_index new (i - start)
  pub before : (i : ℕ) → i < length bytes → i < start → slice_index (splice bytes start new) i ≡ slice_index bytes i
  pub past : (i : ℕ) → i < length bytes → start + length new ≤ i → slice_index (splice bytes start new) i ≡ slice_index bytes i
  pub gap : (i : ℕ) → length bytes ≤ i → i < start → slice_index (splice bytes start new) i ≡ 0

-- and that is what `splice` makes of them (page of write)
abbrev pub WriteSplices : Type 0
WriteSplices = (bytes : List ℕ) (start : ℕ) (new : List ℕ) → Spliced bytes start new

-- bytes that were given a length: the first ones as they were, and zeros after them (page of ftruncate)
pub record Resized (bytes : List ℕ) (len : ℕ) : Type 0 where
  pub size : length (resized bytes len) ≡ len
  pub first : (i : ℕ) → i < len → i < length bytes → slice_index (resized bytes len) i ≡ slice_index bytes i
  pub zeros : (i : ℕ) → length bytes ≤ i → i < len → slice_index (resized bytes len) i ≡ 0

-- and that is what `resized` makes of them (page of ftruncate)
abbrev pub FtruncateResizes : Type 0
FtruncateResizes = (bytes : List ℕ) (len : ℕ) → Resized bytes len

-- a descriptor of a process is open, on a regular file that is there, as it is in every world of a history (own)
pub record OpenOn (w : World) (process : ℕ) (fd : ℤ) (o : OpenDescriptor) (file : ℕ) : Type 0 where
  pub opened_is : opened w process fd ≡ Some o
  pub target_is : o.description.target ≡ target.Regular file
  pub there : is_regular_file (slot w.files file) ≡ true

-- an ftruncate that is not refused leaves its file with just that length, cut or extended by zeros (page of ftruncate)
abbrev pub FtruncateLeavesResized : Type 0
FtruncateLeavesResized = (bounds : Bounds) (w : World) (process : ℕ) (fd len : ℤ) (o : OpenDescriptor) (file : ℕ) → OpenOn w process fd o file →
    outcome_of bounds w process (call.Ftruncate fd len) ≡ Replied Done →
    bytes_of (before_sweep bounds w process (call.Ftruncate fd len)) file ≡ resized (bytes_of w file) (bytes_before len)

-- an ftruncate leaves every open file description, with its offset, as it was (page of ftruncate)
abbrev pub FtruncateKeepsOffsets : Type 0
FtruncateKeepsOffsets = (bounds : Bounds) (w : World) (process : ℕ) (fd len : ℤ) → (before_sweep bounds w process (call.Ftruncate fd len)).descriptions
    ≡ w.descriptions

-- a write of some bytes that is not refused puts those that it took at the offset, or at the end under append (page of write)
abbrev pub WritePuts : Type 0
WritePuts = (bounds : Bounds) (w : World) (process : ℕ) (fd : ℤ) (bytes : List ℕ) (o : OpenDescriptor) (file n : ℕ) → OpenOn w process fd o file →
    bytes ≢ [] → outcome_of bounds w process (call.Write fd bytes) ≡ Replied (Number n) →
    bytes_of (before_sweep bounds w process (call.Write fd bytes)) file ≡ splice (bytes_of w file) (write_start o.description (length (bytes_of w file)))
    (take n bytes)

-- and leaves the offset after those that it took (page of write)
abbrev pub WriteMoves : Type 0
WriteMoves = (bounds : Bounds) (w : World) (process : ℕ) (fd : ℤ) (bytes : List ℕ) (o : OpenDescriptor) (file n : ℕ) → OpenOn w process fd o file →
    bytes ≢ [] → outcome_of bounds w process (call.Write fd bytes) ≡ Replied (Number n) →
    slot (before_sweep bounds w process (call.Write fd bytes)).descriptions o.number ≡ Some
    (at_offset (write_start o.description (length (bytes_of w file)) + n) o.description)

-- it takes all of them, or as many as there is room for below the size limit (page of write)
abbrev pub WriteTakesAll : Type 0
WriteTakesAll = (bounds : Bounds) (w : World) (process : ℕ) (fd : ℤ) (bytes : List ℕ) (o : OpenDescriptor) (file n : ℕ) → OpenOn w process fd o file →
    bytes ≢ [] → outcome_of bounds w process (call.Write fd bytes) ≡ Replied (Number n) →
    (n ≡ length bytes) ⊎ (write_start o.description (length (bytes_of w file)) + n ≡ bounds.file_size)

-- a pwrite puts them at its position, under append too (page of write, pwrite)
abbrev pub PwritePuts : Type 0
PwritePuts = (bounds : Bounds) (w : World) (process : ℕ) (fd start : ℤ) (bytes : List ℕ) (o : OpenDescriptor) (file n : ℕ) → OpenOn w process fd o file →
    bytes ≢ [] → outcome_of bounds w process (call.Pwrite fd start bytes) ≡ Replied (Number n) →
    bytes_of (before_sweep bounds w process (call.Pwrite fd start bytes)) file ≡ splice (bytes_of w file) (bytes_before start) (take n bytes)

-- a write under append leaves the bytes that were there, and after them those that it took, whatever the offset (page of write)
abbrev pub WriteAppends : Type 0
WriteAppends = (bounds : Bounds) (w : World) (process : ℕ) (fd : ℤ) (bytes : List ℕ) (o : OpenDescriptor) (file n : ℕ) → OpenOn w process fd o file →
    o.description.append ≡ true → outcome_of bounds w process (call.Write fd bytes) ≡ Replied (Number n) →
    bytes_of (before_sweep bounds w process (call.Write fd bytes)) file ≡ bytes_of w file ++ take n bytes

-- the bytes that stand from a position on: as many as were asked, or as there are (page of read)
pub record IsRead (bytes : List ℕ) (start count : ℕ) (got : List ℕ) : Type 0 where
  pub size : length got ≡ min count (length bytes - start)
  pub each : (i : ℕ) → i < length got → slice_index got i ≡ slice_index bytes (start + i)

-- a read that is not refused gives those from its offset on (page of read)
abbrev pub ReadGives : Type 0
ReadGives = (bounds : Bounds) (w : World) (process : ℕ) (fd : ℤ) (count : ℕ) (o : OpenDescriptor) (file : ℕ) (got : List ℕ) → OpenOn w process fd o file →
    outcome_of bounds w process (call.Read fd count) ≡ Replied (Data got) → IsRead (bytes_of w file) o.description.offset count got

-- a pread gives those from its position on (page of read, pread)
abbrev pub PreadGives : Type 0
PreadGives = (bounds : Bounds) (w : World) (process : ℕ) (fd start : ℤ) (count : ℕ) (o : OpenDescriptor) (file : ℕ) (got : List ℕ) →
    OpenOn w process fd o file →
    outcome_of bounds w process (call.Pread fd start count) ≡ Replied (Data got) → IsRead (bytes_of w file) (bytes_before start) count got

-- a read of a regular file leaves the offset after the bytes that it gave, so the next one goes on there (page of read)
abbrev pub ReadMoves : Type 0
ReadMoves = (bounds : Bounds) (w : World) (process : ℕ) (fd : ℤ) (count : ℕ) (o : OpenDescriptor) (got : List ℕ) → opened w process fd ≡ Some o →
    is_regular o ≡ true →
    outcome_of bounds w process (call.Read fd count) ≡ Replied (Data got) →
    slot (before_sweep bounds w process (call.Read fd count)).descriptions o.number ≡ Some (at_offset (o.description.offset + length got) o.description)

-- an lseek that is not refused tells the place that is so many bytes past the start, the offset or the end (page of lseek)
pub record Seeks (bounds : Bounds) (w : World) (process : ℕ) (fd offset : ℤ) (o : OpenDescriptor) (file n : ℕ) : Type 0 where
  pub set : outcome_of bounds w process (call.Lseek fd offset Set) ≡ Replied (Number n) → pos n ≡ offset
  pub cur : outcome_of bounds w process (call.Lseek fd offset Cur) ≡ Replied (Number n) → pos n ≡ pos o.description.offset +ℤ offset
  pub end : outcome_of bounds w process (call.Lseek fd offset End) ≡ Replied (Number n) → pos n ≡ pos (length (bytes_of w file)) +ℤ offset

-- and that is what each of them tells (page of lseek)
abbrev pub SeekTells : Type 0
SeekTells = (bounds : Bounds) (w : World) (process : ℕ) (fd offset : ℤ) (o : OpenDescriptor) (file n : ℕ) → OpenOn w process fd o file →
    Seeks bounds w process fd offset o file n

-- and leaves the offset of its open file description there (page of lseek)
abbrev pub SeekMoves : Type 0
SeekMoves = (bounds : Bounds) (w : World) (process : ℕ) (fd offset : ℤ) (from : Whence) (o : OpenDescriptor) (n : ℕ) → opened w process fd ≡ Some o →
    outcome_of bounds w process (call.Lseek fd offset from) ≡ Replied (Number n) →
    slot (before_sweep bounds w process (call.Lseek fd offset from)).descriptions o.number ≡ Some (at_offset n o.description)

-- a pread changes nothing: no byte, and no offset (page of read, pread)
abbrev pub PreadKeepsWorld : Type 0
PreadKeepsWorld = (bounds : Bounds) (w : World) (process : ℕ) (fd start : ℤ) (count : ℕ) → before_sweep bounds w process (call.Pread fd start count) ≡ w

-- a read of no bytes changes nothing, and moves no offset (page of read)
abbrev pub NothingRead : Type 0
NothingRead = (bounds : Bounds) (w : World) (process : ℕ) (fd : ℤ) → before_sweep bounds w process (call.Read fd 0) ≡ w

-- nor does a write of none, past the end or at the size limit (page of write)
abbrev pub NothingWritten : Type 0
NothingWritten = (bounds : Bounds) (w : World) (process : ℕ) (fd : ℤ) → before_sweep bounds w process (call.Write fd []) ≡ w

-- nor does a pwrite of none (page of write, pwrite)
abbrev pub NothingPwritten : Type 0
NothingPwritten = (bounds : Bounds) (w : World) (process : ℕ) (fd start : ℤ) → before_sweep bounds w process (call.Pwrite fd start []) ≡ w

-- a pwrite leaves every open file description, with its offset, as it was (page of write, pwrite)
abbrev pub PwriteKeepsOffsets : Type 0
PwriteKeepsOffsets = (bounds : Bounds) (w : World) (process : ℕ) (fd start : ℤ) (bytes : List ℕ) →
    (before_sweep bounds w process (call.Pwrite fd start bytes)).descriptions ≡ w.descriptions

-- an open descriptor whose description is under append, or is not
abbrev pub with_append : OpenDescriptor → Bool → OpenDescriptor
with_append o append = record o { description = record o.description { append = append } }

-- the world in which the description of an open descriptor is under append, or is not
abbrev pub with_appending : World → OpenDescriptor → Bool → World
with_appending w o append = record w { descriptions = slice_set w.descriptions o.number (Some (with_append o append).description) }

-- a call tells the same in two worlds, and leaves the same bytes in every file
pub record SameWriting (bounds : Bounds) (process : ℕ) (c : Call) (w v : World) : Type 0 where
  pub outcome : outcome_of bounds v process c ≡ outcome_of bounds w process c
  pub files : (before_sweep bounds v process c).files ≡ (before_sweep bounds w process c).files

-- in two worlds that differ in that flag alone a pwrite does the same (page of write, pwrite)
abbrev pub PwriteSameUnderAppend : Type 0
PwriteSameUnderAppend = (bounds : Bounds) (w : World) (process : ℕ) (fd start : ℤ) (bytes : List ℕ) (o : OpenDescriptor) (append : Bool) →
    opened w process fd ≡ Some o → SameWriting bounds process (call.Pwrite fd start bytes) w (with_appending w o append)

-- a write, a pwrite and an ftruncate on a descriptor leave the file of this number as it was
pub record LeaveFile (bounds : Bounds) (w : World) (process : ℕ) (fd start len : ℤ) (bytes : List ℕ) (n : ℕ) : Type 0 where
  pub write : slot (before_sweep bounds w process (call.Write fd bytes)).files n ≡ slot w.files n
  pub pwrite : slot (before_sweep bounds w process (call.Pwrite fd start bytes)).files n ≡ slot w.files n
  pub ftruncate : slot (before_sweep bounds w process (call.Ftruncate fd len)).files n ≡ slot w.files n

-- and so they leave each file but the one that the descriptor is open on (pages of write, pwrite and ftruncate)
abbrev pub OwnFileAlone : Type 0
OwnFileAlone = (bounds : Bounds) (w : World) (process : ℕ) (fd start len : ℤ) (bytes : List ℕ) (o : OpenDescriptor) (number n : ℕ) →
    OpenOn w process fd o number → n ≢ number →
    LeaveFile bounds w process fd start len bytes n

-- the second world has the files, with their bytes, and the names of the first
pub record SameFiles (w v : World) : Type 0 where
  pub files : v.files ≡ w.files
  pub names : v.names ≡ w.names

-- an open, a write, a pwrite, an ftruncate, a mkfifo, a link, an unlink and a rename may change them; every other call leaves all of
-- them: a seek past the end neither makes a file longer nor changes a byte (their pages)
abbrev pub FilesStay : Type 0
FilesStay = (bounds : Bounds) (w : World) (process : ℕ) (c : Call) → may_change_files (act.Call c) ≡ false → SameFiles w (before_sweep bounds w process c)

-- an open, a read, a write and a pipe may change a pipe; every other call leaves each pipe, with its bytes (their pages)
abbrev pub PipesStay : Type 0
PipesStay = (bounds : Bounds) (w : World) (process : ℕ) (c : Call) → may_change_pipes (act.Call c) ≡ false → (before_sweep bounds w process c).pipes ≡ w.pipes

-- the same of every act, but for what a sweep takes: no other than those calls changes a file or a name
abbrev pub ActsLeaveFiles : Type 0
ActsLeaveFiles = (bounds : Bounds) (w : World) (actor : ℕ) (act : Act) (d : Decided) → comes_to bounds w actor act ≡ Some d → may_change_files act ≡ false →
    SameFiles w (changed w (given act) d.change)

-- and none but those calls, and a resume, changes a pipe
abbrev pub ActsLeavePipes : Type 0
ActsLeavePipes = (bounds : Bounds) (w : World) (actor : ℕ) (act : Act) (d : Decided) → comes_to bounds w actor act ≡ Some d → may_change_pipes act ≡ false →
    (changed w (given act) d.change).pipes ≡ w.pipes

-- what an open of this file refers to: a regular file, or a FIFO and the pipe between its ends (page of open)
abbrev pub target_on : World → ℕ → Option Fifo → Target
target_on w file None = target.Regular file
target_on w file (Some fifo) = target.Fifo file (pipe_between w (Some fifo))

-- one more open file description, at the start of the file that the name leads to, for what the flags ask; the others are as
-- they were, and the descriptor leads to it
pub record Opens (w v : World) (process : ℕ) (name : List ℕ) (flags : OpenFlags) (fd : ℕ) : Type 0 where
  pub description : Description
  pub file : ℕ
  pub named : file_of name v.names ≡ Some file
  pub target_is : description.target ≡ target_on w file (fifo_at (slot w.files file))
  pub at_start : description.offset ≡ 0
  pub mode_is : description.mode ≡ mode_of flags
  pub append_is : description.append ≡ has flags flag.appending
  pub nonblock_is : description.nonblock ≡ has flags flag.nonblocking
  pub appended : v.descriptions ≡ w.descriptions ++ Some description ∷ []
  pub leads : opened v process (pos fd) ≡ Some (record { fd = fd; number = length w.descriptions; description = description })

-- an open gives the least descriptor that was free, and that descriptor leads to a description of its own (page of open)
pub record OpensLowest (w v : World) (process : ℕ) (name : List ℕ) (flags : OpenFlags) (outcome : Outcome) : Type 0 where
  pub gives : GivesLowest w v process (call.Open name flags) outcome
  pub opens : Opens w v process name flags gives.fd

-- so does each open that is not refused, whether it tells its descriptor or waits (page of open; own: of one that waits)
abbrev pub OpenDescribes : Type 0
OpenDescribes = (bounds : Bounds) (w : World) (process : ℕ) (name : List ℕ) (flags : OpenFlags) →
    IsNoError (outcome_of bounds w process (call.Open name flags)) →
    OpensLowest w (before_sweep bounds w process (call.Open name flags)) process name flags (outcome_of bounds w process (call.Open name flags))

-- an open file description is for reading where the flags ask for that, and for writing where they ask for that (page of open)
pub record IsForAsked (mode : Mode) (flags : OpenFlags) : Type 0 where
  pub reads : can_read mode ≡ has flags flag.reading
  pub writes : can_write mode ≡ has flags flag.writing

-- so is that of each open that is not refused (page of open)
abbrev pub OpenIsForAsked : Type 0
OpenIsForAsked = (bounds : Bounds) (w : World) (process : ℕ) (name : List ℕ) (flags : OpenFlags) →
    IsNoError (outcome_of bounds w process (call.Open name flags)) →
    IsForAsked (mode_of flags) flags

-- an open under excl and creat that is not refused is of a name that was not there (page of open)
abbrev pub ExclOpensNew : Type 0
ExclOpensNew = (bounds : Bounds) (w : World) (process : ℕ) (name : List ℕ) (flags : OpenFlags) → has flags flag.excl ≡ true → has flags flag.creat ≡ true →
    IsNoError (outcome_of bounds w process (call.Open name flags)) → file_of name w.names ≡ None

-- the second world has no byte in the file of this number, and every other file as it was
pub record EmptiesFile (number : ℕ) (w v : World) : Type 0 where
  pub emptied : bytes_of v number ≡ []
  pub others : (n : ℕ) → n ≢ number → slot v.files n ≡ slot w.files n

-- an open under trunc that is not refused leaves the file of its name empty, and no other is changed (page of open)
abbrev pub TruncOpenEmpties : Type 0
TruncOpenEmpties = (bounds : Bounds) (w : World) (process : ℕ) (name : List ℕ) (flags : OpenFlags) (number : ℕ) → file_of name w.names ≡ Some number →
    has flags flag.trunc ≡ true → IsNoError (outcome_of bounds w process (call.Open name flags)) →
    EmptiesFile number w (before_sweep bounds w process (call.Open name flags))

-- an open without trunc of a name that is there, and leads to no FIFO, changes no file (page of open)
abbrev pub OpenKeepsFiles : Type 0
OpenKeepsFiles = (bounds : Bounds) (w : World) (process : ℕ) (name : List ℕ) (flags : OpenFlags) (number : ℕ) → file_of name w.names ≡ Some number →
    fifo_at (slot w.files number) ≡ None → has flags flag.trunc ≡ false → (before_sweep bounds w process (call.Open name flags)).files ≡ w.files

-- and no open of a name that is there changes another file (page of open)
abbrev pub OpenKeepsOthers : Type 0
OpenKeepsOthers = (bounds : Bounds) (w : World) (process : ℕ) (name : List ℕ) (flags : OpenFlags) (number n : ℕ) → file_of name w.names ≡ Some number →
    n ≢ number →
    slot (before_sweep bounds w process (call.Open name flags)).files n ≡ slot w.files n

-- an open of a new name that is not refused adds an empty regular file, and changes no other (page of open)
abbrev pub OpenMakesEmpty : Type 0
OpenMakesEmpty = (bounds : Bounds) (w : World) (process : ℕ) (name : List ℕ) (flags : OpenFlags) → file_of name w.names ≡ None →
    IsNoError (outcome_of bounds w process (call.Open name flags)) → (before_sweep bounds w process (call.Open name flags)).files ≡ w.files ++ Some
    (file.Regular []) ∷ []
