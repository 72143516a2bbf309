-- The page of mkfifo.
use Rattle.std.specs.Prelude.{ℕ, Bool, List, [], ◌∷◌, ◌++◌, is_some}
use Rattle.call_types.specs.Names.{file_of}
use Rattle.posix_model.specs.Types.{Errno, World, EEXIST, ENOSPC, Done}
use Rattle.posix_model.specs.Pages.{Page, does}
use Rattle.posix_model.specs.Open.{name_faults, names_full}
use Rattle.posix_model.specs.declared.change.FileEdit.TheVariants as on_files
use Rattle.posix_model.specs.declared.change.TableEdit.TheVariants as on_table

-- the refusals of a name that may be taken
abbrev pub new_name_faults : World → List ℕ → List (Bool × Errno)
new_name_faults w name = (is_some (file_of name w.names), EEXIST) ∷ (names_full w, ENOSPC) ∷ []

-- mkfifo(name): a FIFO has this name
abbrev pub mkfifo : World → List ℕ → Page
mkfifo w name = record { faults = name_faults name ++ new_name_faults w name; effect = does Done (on_files.MakeFifo name) on_table.Nothing }
