-- Pipes and FIFOs: what they hold, for what they have room, and which of their ends are open.
use Rattle.std.specs.Prelude.{ℕ, ◌+◌, ◌-◌, Bool, false, nat_lt, List, [], ◌∷◌, ◌++◌, Option, None, Some, length, unwrap_or}
use Rattle.std.specs.Option.{option_map_or}
use Rattle.slots.specs.Slots.{slot, edited}
use Rattle.posix_model.specs.Types.{Bounds, World, File, Fifo, Target, Mode}
use Rattle.posix_model.specs.Counts.{readers, writers}
use Rattle.posix_model.specs.Descriptors.{pipe_bytes, held_in}
use Rattle.posix_model.specs.declared.world.File.TheVariants as file
use Rattle.call_types.specs.declared.description.Mode.TheVariants as mode
use Rattle.call_types.specs.declared.description.Target.TheVariants as target

-- the bytes that a pipe holds, of which the first is read next; none where it is gone
abbrev pub held_bytes : World → ℕ → List ℕ
held_bytes w pipe = pipe_bytes (slot w.pipes pipe)

-- for how many more bytes a pipe has room
abbrev pub room_in : Bounds → World → ℕ → ℕ
room_in bounds w pipe = bounds.pipe_capacity - held_in w pipe

-- whether a reading end of a pipe is open
abbrev pub has_reader : World → ℕ → Bool
has_reader w pipe = nat_lt 0 (readers w.descriptions pipe)

-- whether a writing end of a pipe is open
abbrev pub has_writer : World → ℕ → Bool
has_writer w pipe = nat_lt 0 (writers w.descriptions pipe)

-- whether an end opposite to one of this mode is open; one for both has none, and an open of a FIFO for both is refused (`is_both` in Open)
abbrev pub has_opposite : World → Mode → ℕ → Bool
has_opposite w mode.Read pipe = has_writer w pipe
has_opposite w mode.Write pipe = has_reader w pipe
has_opposite w mode.ReadWrite pipe = false

-- the pipe that a target is an end of
abbrev pub pipe_at : Target → Option ℕ
pipe_at (target.Regular file) = None
pipe_at (target.Pipe pipe) = Some pipe
pipe_at (target.Fifo file pipe) = Some pipe

-- the FIFO that stands there, if one does
abbrev pub fifo_at : Option File → Option Fifo
fifo_at None = None
fifo_at (Some (file.Regular bytes)) = None
fifo_at (Some (file.Fifo fifo)) = Some fifo

-- the pipe of a FIFO of which an end is open
abbrev pub pipe_of_fifo : Option Fifo → Option ℕ
pipe_of_fifo None = None
pipe_of_fifo (Some fifo) = fifo.pipe

-- whether an end of a FIFO opposite to one of this mode is open
abbrev pub is_met : World → Mode → Fifo → Bool
is_met w mode fifo = option_map_or (has_opposite w mode) fifo.pipe false

-- how often the end opposite to one of this mode was opened (own)
abbrev pub opposite_openings : Mode → Option Fifo → ℕ
opposite_openings mode None = 0
opposite_openings mode.Read (Some fifo) = fifo.writer_openings
opposite_openings mode.Write (Some fifo) = fifo.reader_openings
opposite_openings mode.ReadWrite (Some fifo) = 0

-- a FIFO that nobody opened yet
abbrev pub unopened : Fifo
unopened = record { pipe = None; reader_openings = 0; writer_openings = 0 }

-- the pipe between the ends of a FIFO: the one that it has, or the next
abbrev pub pipe_between : World → Option Fifo → ℕ
pipe_between w fifo = unwrap_or (pipe_of_fifo fifo) (length w.pipes)

-- the pipes, with an empty one more where a FIFO has none
abbrev pub with_pipe_for : Option ℕ → List (Option (List ℕ)) → List (Option (List ℕ))
with_pipe_for None pipes = pipes ++ Some [] ∷ []
with_pipe_for (Some pipe) pipes = pipes

-- a FIFO of which an end is opened once more, on this pipe: the reading one, or else the writing one, since an open for both is refused
abbrev pub opened_once : Mode → ℕ → Fifo → Fifo
opened_once mode.Read pipe fifo = record fifo { pipe = Some pipe; reader_openings = fifo.reader_openings + 1 }
opened_once other pipe fifo = record fifo { pipe = Some pipe; writer_openings = fifo.writer_openings + 1 }

-- a file, if it is a FIFO, of which an end is opened once more
abbrev pub opened_file : Mode → ℕ → File → File
opened_file mode pipe (file.Regular bytes) = file.Regular bytes
opened_file mode pipe (file.Fifo fifo) = file.Fifo (opened_once mode pipe fifo)

-- the world in which an end of a FIFO is opened once more
abbrev pub with_opening : World → ℕ → Mode → World
with_opening w number mode =
    let fifo = fifo_at (slot w.files number) in
    record w { files = edited number (opened_file mode (pipe_between w fifo)) w.files; pipes = with_pipe_for (pipe_of_fifo fifo) w.pipes }

-- the world with one pipe more, which is empty
abbrev pub with_pipe : World → World
with_pipe w = record w { pipes = w.pipes ++ Some [] ∷ [] }
