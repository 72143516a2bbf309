-- Positions in a file that a call gives, in bytes from its start, and what has positions.
use Rattle.std.specs.Prelude.{ℕ, ℤ, pos, nat_abs, int_lt, Bool, Option, None, Some, is_some, unwrap_or}
use Rattle.posix_model.specs.Types.{Target, OpenDescriptor}
use Rattle.call_types.specs.declared.description.Target.TheVariants as target

-- whether a position is before the start of a file
abbrev pub is_before : ℤ → Bool
is_before start = int_lt start (pos 0)

-- how many bytes stand before a position that is not before the start
abbrev pub bytes_before : ℤ → ℕ
bytes_before start = nat_abs start

-- the regular file that a target is, which has positions; a pipe or FIFO has none
abbrev pub regular_file : Target → Option ℕ
regular_file (target.Regular file) = Some file
regular_file (target.Pipe pipe) = None
regular_file (target.Fifo file pipe) = None

-- whether a descriptor is open on a regular file (ESPIPE is told of any other)
abbrev pub is_regular : OpenDescriptor → Bool
is_regular o = is_some (regular_file o.description.target)

-- the regular file that a descriptor is open on, which is there where it is on one
abbrev pub file_at : OpenDescriptor → ℕ
file_at o = unwrap_or (regular_file o.description.target) 0
