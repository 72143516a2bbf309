-- The page of ftruncate.
use Rattle.std.specs.Prelude.{ℤ, Bool, not, nat_lt, List, [], ◌∷◌}
use Rattle.posix_model.specs.Types.{Errno, Bounds, OpenDescriptor, EINVAL, EFBIG, Done}
use Rattle.call_types.specs.Descriptions.{can_write}
use Rattle.posix_model.specs.Positions.{is_before, bytes_before, is_regular, file_at}
use Rattle.posix_model.specs.Pages.{Page, does}
use Rattle.posix_model.specs.declared.change.FileEdit.TheVariants as on_files
use Rattle.posix_model.specs.declared.change.TableEdit.TheVariants as on_table

-- the refusals of an open descriptor (own: EINVAL of a pipe or FIFO, and not EBADF where it is not open for writing; EFBIG over the size
-- limit)
abbrev pub ftruncate_faults : Bounds → ℤ → OpenDescriptor → List (Bool × Errno)
ftruncate_faults bounds len o =
    (is_before len, EINVAL)
    ∷ (not (is_regular o), EINVAL)
    ∷ (not (can_write o.description.mode), EINVAL)
    ∷ (nat_lt bounds.file_size (bytes_before len), EFBIG)
    ∷ []

-- ftruncate(fd, len): the file has this length; the offset stays
abbrev pub ftruncate : Bounds → ℤ → OpenDescriptor → Page
ftruncate bounds len o = record {
  faults = ftruncate_faults bounds len o;
  effect = does Done (on_files.Resize (file_at o) (bytes_before len)) on_table.Nothing;
}
