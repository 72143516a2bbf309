-- The page of pipe.
use Rattle.std.specs.Prelude.{ℕ, ◌+◌, Bool, nat_lt, List, [], ◌∷◌, is_none, unwrap_or}
use Rattle.slots.specs.Slots.{slot, live}
use Rattle.process_table.specs.Tables.{two_lowest}
use Rattle.process_table.specs.Processes.{table_of}
use Rattle.posix_model.specs.Types.{Errno, World, Decided, EMFILE, ENFILE, Pair, DESCRIPTIONS_MAX}
use Rattle.posix_model.specs.Pages.{Page, does}
use Rattle.posix_model.specs.declared.change.FileEdit.TheVariants as on_files
use Rattle.posix_model.specs.declared.change.TableEdit.TheVariants as on_table

-- the refusals for want of room (own: 1,024 live descriptions are the most)
abbrev pub pipe_faults : World → ℕ → List (Bool × Errno)
pipe_faults w process =
    (is_none (two_lowest (table_of (slot w.processes process))), EMFILE)
    ∷ (nat_lt DESCRIPTIONS_MAX (live w.descriptions + 2), ENFILE)
    ∷ []

-- the two lowest free descriptors of a process (XSH 2.14, File Descriptor Allocation), which are there where there is no fault
abbrev pub free_pair : World → ℕ → ℕ × ℕ
free_pair w process = unwrap_or (two_lowest (table_of (slot w.processes process))) (0, 0)

-- they refer to the ends of a new pipe (own: the reading end has the lower number)
abbrev pub opens_pair : ℕ → ℕ × ℕ → Decided
opens_pair process fds = does (Pair fds.0 fds.1) on_files.Nothing (on_table.OpenPair process fds.0 fds.1)

-- pipe()
abbrev pub pipe : World → ℕ → Page
pipe w process = record { faults = pipe_faults w process; effect = opens_pair process (free_pair w process) }
