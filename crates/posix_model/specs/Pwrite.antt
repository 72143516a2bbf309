-- The page of write, pwrite: as write, at a position that the call gives, under append too; the offset stays.
use Rattle.std.specs.Prelude.{ℕ, ℤ, Bool, not, nat_lt, List, [], ◌∷◌, length}
use Rattle.posix_model.specs.Types.{Errno, Bounds, OpenDescriptor, EBADF, EINVAL, ESPIPE, EFBIG, TRANSFER_MAX}
use Rattle.call_types.specs.Descriptions.{can_write}
use Rattle.posix_model.specs.Positions.{is_before, bytes_before, is_regular, file_at}
use Rattle.posix_model.specs.Pages.{Page}
use Rattle.posix_model.specs.Write.{is_past_limit, fitting, puts}
use Rattle.posix_model.specs.declared.change.TableEdit.TheVariants as on_table

-- the refusals of an open descriptor (own: EINVAL of more than 65,536 bytes)
abbrev pub pwrite_faults : Bounds → ℤ → List ℕ → OpenDescriptor → List (Bool × Errno)
pwrite_faults bounds start bytes o =
    (not (can_write o.description.mode), EBADF)
    ∷ (not (is_regular o), ESPIPE)
    ∷ (is_before start, EINVAL)
    ∷ (nat_lt TRANSFER_MAX (length bytes), EINVAL)
    ∷ (is_past_limit bounds (bytes_before start) bytes, EFBIG)
    ∷ []

-- pwrite(fd, start, bytes): what fits from the position on
abbrev pub pwrite : Bounds → ℤ → List ℕ → OpenDescriptor → Page
pwrite bounds start bytes o = record {
  faults = pwrite_faults bounds start bytes o;
  effect = puts bytes (file_at o) (bytes_before start) (fitting bounds (bytes_before start) bytes) on_table.Nothing;
}
