-- The page of write.
use Rattle.std.specs.Prelude.{ℕ, ◌+◌, ◌-◌, ◌==◌, ◌&&◌, min, Bool, not, nat_lt, nat_le, List, [], ◌∷◌, Option, None, Some, length, if◌then◌else◌}
use Rattle.posix_model.specs.Types.{Call, Errno, Bounds, World, Description, OpenDescriptor, TableEdit, Decided, EBADF, EINVAL, EFBIG, Number, TRANSFER_MAX}
use Rattle.call_types.specs.Descriptions.{can_write}
use Rattle.posix_model.specs.Positions.{is_regular, file_at}
use Rattle.posix_model.specs.Pipes.{pipe_at}
use Rattle.posix_model.specs.Tries.{write_try, first_try}
use Rattle.posix_model.specs.declared.change.DataSource.TheVariants as source
use Rattle.posix_model.specs.Pages.{Page, does, tells}
use Rattle.posix_model.specs.Descriptors.{bytes_of}
use Rattle.posix_model.specs.declared.change.FileEdit.TheVariants as on_files
use Rattle.posix_model.specs.declared.change.TableEdit.TheVariants as on_table
use Rattle.call_types.specs.declared.description.DescriptionEdit.TheVariants as on_description

-- where a write begins: at the end under append, else at the offset
abbrev pub write_start : Description → ℕ → ℕ
write_start description len = if description.append then len else description.offset

-- whether some bytes would begin at the size limit or past it
abbrev pub is_past_limit : Bounds → ℕ → List ℕ → Bool
is_past_limit bounds start bytes = not (length bytes == 0) && nat_le bounds.file_size start

-- the refusals of an open descriptor (own: EINVAL of more than 65,536 bytes); a pipe or FIFO has no position, and its EAGAIN and EPIPE are
-- of a try
abbrev pub write_faults : Bounds → ℕ → List ℕ → OpenDescriptor → List (Bool × Errno)
write_faults bounds start bytes o =
    (not (can_write o.description.mode), EBADF)
    ∷ (nat_lt TRANSFER_MAX (length bytes), EINVAL)
    ∷ (is_regular o && is_past_limit bounds start bytes, EFBIG)
    ∷ []

-- how many of the bytes fit below the size limit
abbrev pub fitting : Bounds → ℕ → List ℕ → ℕ
fitting bounds start bytes = min (length bytes) (bounds.file_size - start)

-- so many bytes are put into a file, with an edit of the offset; no bytes are no change
abbrev pub puts : List ℕ → ℕ → ℕ → ℕ → TableEdit → Decided
puts bytes file start n moved = if length bytes == 0 then tells (Number 0) else does (Number n) (on_files.Bytes file start n) moved

-- a write to a regular file from a position on: what fits, and the offset goes past it
abbrev pub write_file : Bounds → ℕ → List ℕ → OpenDescriptor → Decided
write_file bounds start bytes o = let n = fitting bounds start bytes in
    puts bytes (file_at o) start n (on_table.Describe o.number (on_description.Offset (start + n)))

-- a write to a pipe or FIFO: of no bytes it changes nothing (own), else it is tried, and may wait
abbrev pub write_end : Bounds → World → ℕ → Call → List ℕ → OpenDescriptor → ℕ → Decided
write_end bounds w process c bytes o pipe =
    if length bytes == 0 then tells (Number 0) else first_try process c o (write_try bounds w pipe source.Act (length bytes) 0)

-- by what the descriptor is open on
abbrev pub write_to : Bounds → World → ℕ → Call → ℕ → List ℕ → OpenDescriptor → Option ℕ → Decided
write_to bounds w process c start bytes o None = write_file bounds start bytes o
write_to bounds w process c start bytes o (Some pipe) = write_end bounds w process c bytes o pipe

-- a write that begins at this position, where it has one
abbrev pub write_from : Bounds → World → ℕ → Call → ℕ → List ℕ → OpenDescriptor → Page
write_from bounds w process c start bytes o =
    record { faults = write_faults bounds start bytes o; effect = write_to bounds w process c start bytes o (pipe_at o.description.target) }

-- write(fd, bytes), which is this call
abbrev pub write : Bounds → World → ℕ → Call → List ℕ → OpenDescriptor → Page
write bounds w process c bytes o = write_from bounds w process c (write_start o.description (length (bytes_of w (file_at o)))) bytes o
