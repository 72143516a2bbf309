-- What nothing refers to any more goes (page of close).
use Rattle.std.specs.Prelude.{ℕ, ◌+◌, Bool, nat_lt, List, Option, None, Some, map, if◌then◌else◌}
use Rattle.slots.specs.Slots.{kept}
use Rattle.call_types.specs.Names.{Entries}
use Rattle.posix_model.specs.Counts.{links, refs, holders, readers, writers}
use Rattle.posix_model.specs.Types.{World, Process, Description, File}
use Rattle.posix_model.specs.declared.world.File.TheVariants as file

-- an open file description stays while a descriptor refers to it
abbrev pub is_referred : List (Option Process) → ℕ → Bool
is_referred processes number = nat_lt 0 (refs processes number)

-- a pipe stays while one of its ends is open
abbrev pub is_open : List (Option Description) → ℕ → Bool
is_open descriptions number = nat_lt 0 (readers descriptions number + writers descriptions number)

-- a file stays while it has a name or a description holds it
abbrev pub is_wanted : Entries → List (Option Description) → ℕ → Bool
is_wanted names descriptions number = nat_lt 0 (links names number + holders descriptions number)

-- the pipe of a FIFO, if it is open
abbrev pub open_pipe : List (Option Description) → Option ℕ → Option ℕ
open_pipe descriptions None = None
open_pipe descriptions (Some pipe) = if is_open descriptions pipe then Some pipe else None

-- a file; a FIFO forgets a pipe that is gone
abbrev pub without_gone_pipe : List (Option Description) → Option File → Option File
without_gone_pipe descriptions None = None
without_gone_pipe descriptions (Some (file.Regular bytes)) = Some (file.Regular bytes)
without_gone_pipe descriptions (Some (file.Fifo fifo)) = Some (file.Fifo (record fifo { pipe = open_pipe descriptions fifo.pipe }))

-- first the descriptions without a descriptor go
abbrev pub swept_descriptions : World → World
swept_descriptions w = record w { descriptions = kept (is_referred w.processes) w.descriptions }

-- then the pipes without an end, also out of their FIFOs
abbrev pub swept_pipes : World → World
swept_pipes w = record w { pipes = kept (is_open w.descriptions) w.pipes; files = map (without_gone_pipe w.descriptions) w.files }

-- then the files without a name and a holder
abbrev pub swept_files : World → World
swept_files w = record w { files = kept (is_wanted w.names w.descriptions) w.files }

-- a world without what nothing refers to
abbrev pub sweep : World → World
sweep w = swept_files (swept_pipes (swept_descriptions w))
