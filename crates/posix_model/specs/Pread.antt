-- The page of read, pread: as read, from a position that the call gives; the offset stays.
use Rattle.std.specs.Prelude.{ℕ, ℤ, Bool, not, nat_lt, List, [], ◌∷◌}
use Rattle.posix_model.specs.Types.{Errno, World, OpenDescriptor, EBADF, EINVAL, ESPIPE, Data, TRANSFER_MAX}
use Rattle.posix_model.specs.Bytes.{bytes_at}
use Rattle.call_types.specs.Descriptions.{can_read}
use Rattle.posix_model.specs.Positions.{is_before, bytes_before, is_regular, file_at}
use Rattle.posix_model.specs.Pages.{Page, tells}
use Rattle.posix_model.specs.Descriptors.{bytes_of}

-- the refusals of an open descriptor (own: EINVAL of more than 65,536 bytes)
abbrev pub pread_faults : ℤ → ℕ → OpenDescriptor → List (Bool × Errno)
pread_faults start count o =
    (not (can_read o.description.mode), EBADF)
    ∷ (not (is_regular o), ESPIPE)
    ∷ (is_before start, EINVAL)
    ∷ (nat_lt TRANSFER_MAX count, EINVAL)
    ∷ []

-- pread(fd, start, count): at most so many bytes from the position on; nothing changes
abbrev pub pread : World → ℤ → ℕ → OpenDescriptor → Page
pread w start count o = record { faults = pread_faults start count o; effect = tells (Data (bytes_at (bytes_of w (file_at o)) (bytes_before start) count)) }
