-- The page of rename.
use Rattle.std.specs.Prelude.{ℕ, Bool, false, ◌==◌, List, [], ◌∷◌, ◌++◌, Option, None, Some, is_none, unwrap_or, if◌then◌else◌}
use Rattle.call_types.specs.Names.{file_of}
use Rattle.posix_model.specs.Types.{Errno, World, Decided, ENOENT, Done}
use Rattle.posix_model.specs.Open.{name_faults}
use Rattle.posix_model.specs.Pages.{Page, does, tells}
use Rattle.posix_model.specs.declared.change.NameEdit.TheVariants as on_names
use Rattle.posix_model.specs.declared.change.FileEdit.TheVariants as on_files
use Rattle.posix_model.specs.declared.change.TableEdit.TheVariants as on_table

-- the refusals of two names, of which the old one leads to this
abbrev pub rename_faults : List ℕ → List ℕ → Option ℕ → List (Bool × Errno)
rename_faults old new found = name_faults old ++ (name_faults new ++ (is_none found, ENOENT) ∷ [])

-- whether a name leads to this file
abbrev pub leads_to : ℕ → Option ℕ → Bool
leads_to file None = false
leads_to file (Some found) = found == file

-- the file of the old name has the new one in its place, whatever that led to; where it led to the same file, nothing changes
abbrev pub moves_name : World → List ℕ → List ℕ → ℕ → Decided
moves_name w old new file = if leads_to file (file_of new w.names) then tells Done else does Done (on_files.Names (on_names.Move old new)) on_table.Nothing

-- rename of an old name that leads to this
abbrev pub rename_at : World → List ℕ → List ℕ → Option ℕ → Page
rename_at w old new found = record { faults = rename_faults old new found; effect = moves_name w old new (unwrap_or found 0) }

-- rename(old, new)
abbrev pub rename : World → List ℕ → List ℕ → Page
rename w old new = rename_at w old new (file_of old w.names)
