-- The page of read.
use Rattle.std.specs.Prelude.{ℕ, ◌+◌, ◌==◌, Bool, not, nat_lt, List, [], ◌∷◌, Option, None, Some, length, if◌then◌else◌}
use Rattle.posix_model.specs.Types.{Call, Errno, World, OpenDescriptor, Decided, EBADF, EINVAL, Data, TRANSFER_MAX}
use Rattle.posix_model.specs.Bytes.{bytes_at}
use Rattle.call_types.specs.Descriptions.{can_read}
use Rattle.posix_model.specs.Positions.{file_at}
use Rattle.posix_model.specs.Pipes.{pipe_at}
use Rattle.posix_model.specs.Tries.{read_try, first_try}
use Rattle.posix_model.specs.Pages.{Page, does, tells}
use Rattle.posix_model.specs.Descriptors.{bytes_of}
use Rattle.posix_model.specs.declared.change.FileEdit.TheVariants as on_files
use Rattle.posix_model.specs.declared.change.TableEdit.TheVariants as on_table
use Rattle.call_types.specs.declared.description.DescriptionEdit.TheVariants as on_description

-- the refusals of an open descriptor (own: EINVAL of more than 65,536 bytes); EAGAIN of a pipe or FIFO is of a try
abbrev pub read_faults : ℕ → OpenDescriptor → List (Bool × Errno)
read_faults count o =
    (not (can_read o.description.mode), EBADF)
    ∷ (nat_lt TRANSFER_MAX count, EINVAL)
    ∷ []

-- the bytes are told, and the offset goes past them; none are no change
abbrev pub gives : OpenDescriptor → List ℕ → Decided
gives o got = if length got == 0 then tells (Data got) else does (Data got) on_files.Nothing
    (on_table.Describe o.number (on_description.Offset (o.description.offset + length got)))

-- a read of a pipe or FIFO: of no bytes it changes nothing, else it is tried, and may wait
abbrev pub read_end : World → ℕ → Call → ℕ → OpenDescriptor → ℕ → Decided
read_end w process c count o pipe = if count == 0 then tells (Data []) else first_try process c o (read_try w pipe count)

-- by what the descriptor is open on: a regular file gives bytes from the offset on
abbrev pub read_from : World → ℕ → Call → ℕ → OpenDescriptor → Option ℕ → Decided
read_from w process c count o None = gives o (bytes_at (bytes_of w (file_at o)) o.description.offset count)
read_from w process c count o (Some pipe) = read_end w process c count o pipe

-- read(fd, count), which is this call: at most so many bytes
abbrev pub read : World → ℕ → Call → ℕ → OpenDescriptor → Page
read w process c count o = record { faults = read_faults count o; effect = read_from w process c count o (pipe_at o.description.target) }
