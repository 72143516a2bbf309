-- The page of unlink.
use Rattle.std.specs.Prelude.{ℕ, Bool, List, [], ◌∷◌, ◌++◌, is_none}
use Rattle.call_types.specs.Names.{file_of}
use Rattle.posix_model.specs.Types.{Errno, World, ENOENT, Done}
use Rattle.posix_model.specs.Open.{name_faults}
use Rattle.posix_model.specs.Pages.{Page, does}
use Rattle.posix_model.specs.declared.change.NameEdit.TheVariants as on_names
use Rattle.posix_model.specs.declared.change.FileEdit.TheVariants as on_files
use Rattle.posix_model.specs.declared.change.TableEdit.TheVariants as on_table

-- the refusals of a name that is to go
abbrev pub unlink_faults : World → List ℕ → List (Bool × Errno)
unlink_faults w name = name_faults name ++ (is_none (file_of name w.names), ENOENT) ∷ []

-- unlink(name): the name goes, and the sweep takes its file where it was the last one and nothing has it open
abbrev pub unlink : World → List ℕ → Page
unlink w name = record { faults = unlink_faults w name; effect = does Done (on_files.Names (on_names.Remove name)) on_table.Nothing }
