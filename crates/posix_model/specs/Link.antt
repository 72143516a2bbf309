-- The page of link.
use Rattle.std.specs.Prelude.{ℕ, Bool, nat_le, List, [], ◌∷◌, ◌++◌, Option, is_none, is_some, unwrap_or}
use Rattle.call_types.specs.Names.{file_of}
use Rattle.posix_model.specs.Types.{Errno, World, ENOENT, EEXIST, EMLINK, ENOSPC, Done, LINK_MAX}
use Rattle.posix_model.specs.Counts.{links}
use Rattle.posix_model.specs.Open.{name_faults, names_full}
use Rattle.posix_model.specs.Pages.{Page, does}
use Rattle.posix_model.specs.declared.change.NameEdit.TheVariants as on_names
use Rattle.posix_model.specs.declared.change.FileEdit.TheVariants as on_files
use Rattle.posix_model.specs.declared.change.TableEdit.TheVariants as on_table

-- the refusals of the old name's file, and of the new name (XBD limits.h: LINK_MAX is 8 here, the least that it may be; own: ENOSPC)
abbrev pub linked_faults : World → List ℕ → Option ℕ → List (Bool × Errno)
linked_faults w new found =
    (is_none found, ENOENT)
    ∷ (is_some (file_of new w.names), EEXIST)
    ∷ (nat_le LINK_MAX (links w.names (unwrap_or found 0)), EMLINK)
    ∷ (names_full w, ENOSPC)
    ∷ []

-- link of an old name that leads to this: the file has the new name too
abbrev pub link_at : World → List ℕ → List ℕ → Option ℕ → Page
link_at w old new found = record {
  faults = name_faults old ++ (name_faults new ++ linked_faults w new found);
  effect = does Done (on_files.Names (on_names.Add new (unwrap_or found 0))) on_table.Nothing;
}

-- link(old, new)
abbrev pub link : World → List ℕ → List ℕ → Page
link w old new = link_at w old new (file_of old w.names)
