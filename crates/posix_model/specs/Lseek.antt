-- The page of lseek.
use Rattle.std.specs.Prelude.{ℕ, ℤ, pos, nat_abs, ◌+ℤ◌, int_lt, Bool, not, List, [], ◌∷◌, length}
use Rattle.posix_model.specs.Types.{Errno, Whence, World, OpenDescriptor, EINVAL, ESPIPE, EOVERFLOW, Number, OFFSET_MAX}
use Rattle.call_types.specs.declared.whence.Whence.TheVariants as whence
use Rattle.posix_model.specs.Positions.{is_before, is_regular, file_at}
use Rattle.posix_model.specs.Pages.{Page, does}
use Rattle.posix_model.specs.Descriptors.{bytes_of}
use Rattle.posix_model.specs.declared.change.FileEdit.TheVariants as on_files
use Rattle.posix_model.specs.declared.change.TableEdit.TheVariants as on_table
use Rattle.call_types.specs.declared.description.DescriptionEdit.TheVariants as on_description

-- from where the offset is counted: the start, the offset or the end
abbrev pub base_of : World → OpenDescriptor → Whence → ℕ
base_of w o whence.Set = 0
base_of w o whence.Cur = o.description.offset
base_of w o whence.End = length (bytes_of w (file_at o))

-- the refusals of an open descriptor, by where it leads
abbrev pub lseek_faults : ℤ → OpenDescriptor → List (Bool × Errno)
lseek_faults to o =
    (not (is_regular o), ESPIPE)
    ∷ (is_before to, EINVAL)
    ∷ (int_lt (pos OFFSET_MAX) to, EOVERFLOW)
    ∷ []

-- the offset becomes a place in the file, and is told
abbrev pub lseek_to : ℤ → OpenDescriptor → Page
lseek_to to o = record {
  faults = lseek_faults to o;
  effect = does (Number (nat_abs to)) on_files.Nothing
      (on_table.Describe o.number (on_description.Offset (nat_abs to)));
}

-- lseek(fd, offset, whence)
abbrev pub lseek : World → ℤ → Whence → OpenDescriptor → Page
lseek w offset from o = lseek_to (pos (base_of w o from) +ℤ offset) o
