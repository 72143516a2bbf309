-- The page of open.
use Rattle.std.specs.Prelude.{ℕ, Bool, false, not, ◌&&◌, ◌||◌, ◌==◌, nat_lt, nat_le, List, [], ◌∷◌, ◌++◌, Option, None, Some, length, is_none, is_some, unwrap_or, if◌then◌else◌, codes}
use Rattle.std.specs.Char.{is_ascii_alphanumeric}
use Rattle.std.specs.List.{list_all, list_any}
use Rattle.std.specs.Str.{bytes_eq}
use Rattle.call_types.specs.Flags.{has}
use Rattle.call_types.specs.Flags as flag
use Rattle.posix_model.specs.Types.{Errno, OpenFlags, World, Description, Target, Fifo, Mode, FileEdit, Decided, EINVAL, ENOENT, EEXIST, ENXIO, EMFILE, ENFILE, ENOSPC, ENAMETOOLONG, Number, NAME_MAX, NAMES_MAX, DESCRIPTIONS_MAX}
use Rattle.slots.specs.Slots.{slot, lowest, live}
use Rattle.call_types.specs.Names.{file_of}
use Rattle.posix_model.specs.Pipes.{fifo_at, is_met, opposite_openings, pipe_between}
use Rattle.posix_model.specs.Tries.{waiting, parks}
use Rattle.call_types.specs.declared.call.Call.TheVariants as call
use Rattle.posix_model.specs.Pages.{Page, does}
use Rattle.process_table.specs.Processes.{table_of}
use Rattle.call_types.specs.declared.description.Mode.TheVariants as mode
use Rattle.call_types.specs.declared.description.Target.TheVariants as target
use Rattle.posix_model.specs.declared.change.FileEdit.TheVariants as on_files
use Rattle.posix_model.specs.declared.change.TableEdit.TheVariants as on_table

-- whether a byte may stand in a name: a letter, a digit, or one of . _ - (XBD 3, Portable Filename Character Set)
abbrev pub is_name_byte : ℕ → Bool
is_name_byte b = is_ascii_alphanumeric b || list_any (λ c. c == b) (codes "._-")

-- the names . and .. are directories, which there are none of
abbrev pub is_dots : List ℕ → Bool
is_dots name = bytes_eq name (codes ".") || bytes_eq name (codes "..")

-- the refusals of a name (own: EINVAL of . and .., and of a byte that is not portable)
abbrev pub name_faults : List ℕ → List (Bool × Errno)
name_faults name =
    (length name == 0, ENOENT)
    ∷ (nat_lt NAME_MAX (length name), ENAMETOOLONG)
    ∷ (is_dots name || not (list_all is_name_byte name), EINVAL)
    ∷ []

-- the refusals of flags (own: EINVAL without an access mode, and for excl and trunc where the standard leaves them undefined)
abbrev pub flag_faults : OpenFlags → List (Bool × Errno)
flag_faults flags =
    (not (has flags flag.reading || has flags flag.writing), EINVAL)
    ∷ (has flags flag.excl && not (has flags flag.creat), EINVAL)
    ∷ (has flags flag.trunc && not (has flags flag.writing), EINVAL)
    ∷ []

-- the FIFO that a name leads to, if it leads to one
abbrev pub found_fifo : World → Option ℕ → Option Fifo
found_fifo w None = None
found_fifo w (Some number) = fifo_at (slot w.files number)

-- whether a FIFO would be opened for reading and writing, which the standard leaves undefined
abbrev pub is_both : OpenFlags → Option Fifo → Bool
is_both flags fifo = is_some fifo && (has flags flag.reading && has flags flag.writing)

-- whether an open for writing, with nonblock, of this FIFO would meet no reader (one that waits in its open is a reader too)
abbrev pub is_unread : World → OpenFlags → Option Fifo → Bool
is_unread w flags None = false
is_unread w flags (Some fifo) = has flags flag.writing && (has flags flag.nonblocking && not (is_met w mode.Write fifo))

-- the refusals of what the name leads to (own: EINVAL of a FIFO with both modes)
abbrev pub found_faults : World → OpenFlags → Option ℕ → List (Bool × Errno)
found_faults w flags found =
    (is_none found && not (has flags flag.creat), ENOENT)
    ∷ (is_some found && (has flags flag.creat && has flags flag.excl), EEXIST)
    ∷ (is_both flags (found_fifo w found), EINVAL)
    ∷ (is_unread w flags (found_fifo w found), ENXIO)
    ∷ []

-- whether no descriptor of a process is free
abbrev pub all_open : World → ℕ → Bool
all_open w process = is_none (lowest (table_of (slot w.processes process)))

-- whether there may be no further name (own: 1,024 names are the most)
abbrev pub names_full : World → Bool
names_full w = nat_le NAMES_MAX (length w.names)

-- the refusals for want of room (own: 1,024 live descriptions are the most)
abbrev pub room_faults : World → ℕ → Option ℕ → List (Bool × Errno)
room_faults w process found =
    (all_open w process, EMFILE)
    ∷ (nat_le DESCRIPTIONS_MAX (live w.descriptions), ENFILE)
    ∷ (is_none found && names_full w, ENOSPC)
    ∷ []

-- all refusals of open, of a name that leads to this
abbrev pub open_faults : World → ℕ → List ℕ → OpenFlags → Option ℕ → List (Bool × Errno)
open_faults w process name flags found = flag_faults flags ++ (name_faults name ++ (found_faults w flags found ++ room_faults w process found))

-- for what a file is opened
abbrev pub mode_of : OpenFlags → Mode
mode_of flags = if has flags flag.reading then (if has flags flag.writing then mode.ReadWrite else mode.Read) else mode.Write

-- a new open file description, with offset 0
abbrev pub new_description : Target → OpenFlags → Description
new_description target flags =
    record { target = target; offset = 0; mode = mode_of flags; append = has flags flag.appending; nonblock = has flags flag.nonblocking }

-- the lowest free descriptor of a process (XSH 2.14, File Descriptor Allocation), which is there where there is no fault
abbrev pub free_descriptor : World → ℕ → ℕ
free_descriptor w process = unwrap_or (lowest (table_of (slot w.processes process))) 0

-- the lowest free descriptor refers to a new description, with an edit of files
abbrev pub opens : World → ℕ → FileEdit → Description → Decided
opens w process files description =
    let fd = free_descriptor w process in
    does (Number fd) files (on_table.Open process fd description)

-- under trunc the file loses its bytes
abbrev pub emptied : ℕ → OpenFlags → FileEdit
emptied number flags = if has flags flag.trunc then on_files.Resize number 0 else on_files.Nothing

-- the lowest free descriptor refers to a new description of an end of a FIFO, which is opened once more
abbrev pub opens_end : World → ℕ → OpenFlags → ℕ → Fifo → Decided
opens_end w process flags number fifo =
    let fd = free_descriptor w process in
    does (Number fd) on_files.Nothing (on_table.OpenEnd process fd number (new_description (target.Fifo number (pipe_between w (Some fifo))) flags))

-- an end of a FIFO is opened; without nonblock, and where no opposite end is open, the process waits in the call, with its
-- descriptor and its end open from now on (own)
abbrev pub open_end : World → ℕ → List ℕ → OpenFlags → ℕ → Fifo → Decided
open_end w process name flags number fifo =
    if has flags flag.nonblocking || is_met w (mode_of flags) fifo then opens_end w process flags number fifo
    else parks process (waiting (call.Open name flags) (free_descriptor w process) 0 (opposite_openings (mode_of flags) (Some fifo)))
    (opens_end w process flags number fifo)

-- a file that is there is opened: a regular one, or an end of a FIFO
abbrev pub open_there : World → ℕ → List ℕ → OpenFlags → ℕ → Option Fifo → Decided
open_there w process name flags number None = opens w process (emptied number flags) (new_description (target.Regular number) flags)
open_there w process name flags number (Some fifo) = open_end w process name flags number fifo

-- the file that is there is opened, or a new one
abbrev pub open_found : World → ℕ → List ℕ → OpenFlags → Option ℕ → Decided
open_found w process name flags (Some number) = open_there w process name flags number (fifo_at (slot w.files number))
open_found w process name flags None = opens w process (on_files.MakeFile name) (new_description (target.Regular (length w.files)) flags)

-- open of a name that leads to this
abbrev pub open_at : World → ℕ → List ℕ → OpenFlags → Option ℕ → Page
open_at w process name flags found = record { faults = open_faults w process name flags found; effect = open_found w process name flags found }

-- open(name, flags)
abbrev pub open_file : World → ℕ → List ℕ → OpenFlags → Page
open_file w process name flags = open_at w process name flags (file_of name w.names)
