-- Resume: the call that a process waits in is tried again, once it is ready (own; the standard has no such call).
use Rattle.std.specs.Prelude.{ℕ, pos, ◌==◌, ◌||◌, Bool, not, nat_le, Option, None, Some, length, is_some, if◌then◌else◌}
use Rattle.std.specs.Option.{option_map}
use Rattle.slots.specs.Slots.{slot}
use Rattle.process_table.specs.Processes.{is_here, parked_of}
use Rattle.posix_model.specs.Types.{Call, World, Bounds, Parked, OpenDescriptor, Target, Fifo, Decided, Try, PIPE_BUF, Number}
use Rattle.call_types.specs.declared.call.Call.TheVariants as call
use Rattle.call_types.specs.declared.description.Target.TheVariants as target
use Rattle.posix_model.specs.Descriptors.{opened, held_in}
use Rattle.posix_model.specs.Pipes.{room_in, has_reader, has_writer, has_opposite, pipe_at, fifo_at, opposite_openings}
use Rattle.posix_model.specs.Tries.{read_try, write_try, next_try}
use Rattle.posix_model.specs.declared.change.DataSource.TheVariants as source
use Rattle.posix_model.specs.declared.change.FileEdit.TheVariants as on_files
use Rattle.posix_model.specs.declared.change.Try.TheVariants.{Ends}

-- whether a read can go on
abbrev pub read_ready : World → ℕ → Bool
read_ready w pipe = not (held_in w pipe == 0) || not (has_writer w pipe)

-- for how many bytes there must be room before a write of so many can go on
abbrev pub room_wanted : ℕ → ℕ
room_wanted len = if nat_le len PIPE_BUF then len else 1

-- whether a write of so many bytes can go on
abbrev pub write_ready : Bounds → World → ℕ → ℕ → Bool
write_ready bounds w pipe len = nat_le (room_wanted len) (room_in bounds w pipe) || not (has_reader w pipe)

-- the FIFO that a target is an end of
abbrev pub fifo_of : World → Target → Option Fifo
fifo_of w (target.Fifo file pipe) = fifo_at (slot w.files file)
fifo_of w other = None

-- whether an open of an end of a FIFO can go on
abbrev pub open_ready : World → OpenDescriptor → ℕ → ℕ → Bool
open_ready w o pipe openings =
    has_opposite w o.description.mode pipe || not (opposite_openings o.description.mode (fifo_of w o.description.target) == openings)

-- the next try of a call that waits on this pipe, if it is ready
abbrev pub try_again : Bounds → World → ℕ → OpenDescriptor → Parked → ℕ → Call → Option Try
try_again bounds w process o parked pipe (call.Read fd count) = if read_ready w pipe then Some (read_try w pipe count) else None
try_again bounds w process o parked pipe (call.Write fd bytes) =
    if write_ready bounds w pipe (length bytes) then Some (write_try bounds w pipe (source.Parked process) (length bytes) parked.moved) else None
try_again bounds w process o parked pipe (call.Open name flags) =
    if open_ready w o pipe parked.openings then Some (Ends (Number o.fd) on_files.Nothing) else None
try_again bounds w process o parked pipe other = None

-- of a call that waits on this descriptor
abbrev pub try_on : Bounds → World → ℕ → Parked → OpenDescriptor → Option ℕ → Option Try
try_on bounds w process parked o None = None
try_on bounds w process parked o (Some pipe) = try_again bounds w process o parked pipe parked.call

-- of a call that waits, with what its descriptor leads to
abbrev pub try_opened : Bounds → World → ℕ → Parked → Option OpenDescriptor → Option Try
try_opened bounds w process parked None = None
try_opened bounds w process parked (Some o) = try_on bounds w process parked o (pipe_at o.description.target)

-- of the call that a process waits in, if it waits in one
abbrev pub try_parked : Bounds → World → ℕ → Option Parked → Option Try
try_parked bounds w process None = None
try_parked bounds w process (Some parked) = try_opened bounds w process parked (opened w process (pos parked.fd))

-- the next try of the call that a process waits in: of one that is live and attached, and whose call is ready
abbrev pub next_of : Bounds → World → ℕ → Option Try
next_of bounds w process = if is_here (slot w.processes process) then try_parked bounds w process (parked_of (slot w.processes process)) else None

-- whether a process waits in a call that is ready
abbrev pub is_ready : Bounds → World → ℕ → Bool
is_ready bounds w process = is_some (next_of bounds w process)

-- a resume of a process, or nothing where it is not ready
abbrev pub resume : Bounds → World → ℕ → Option Decided
resume bounds w process = option_map (next_try process) (next_of bounds w process)
