-- The page of dup.
use Rattle.std.specs.Prelude.{ℕ, [], ◌∷◌, Some}
use Rattle.posix_model.specs.Types.{World, OpenDescriptor, EMFILE, Number}
use Rattle.posix_model.specs.Open.{all_open, free_descriptor}
use Rattle.posix_model.specs.Pages.{Page, does}
use Rattle.posix_model.specs.declared.change.FileEdit.TheVariants as on_files
use Rattle.posix_model.specs.declared.change.TableEdit.TheVariants as on_table

-- dup(fd): the lowest free descriptor refers to the same description
abbrev pub dup : World → ℕ → OpenDescriptor → Page
dup w process o =
    let fd = free_descriptor w process in
    record {
      faults = (all_open w process, EMFILE) ∷ [];
      effect = does (Number fd) on_files.Nothing (on_table.Entry process fd (Some o.number));
    }
