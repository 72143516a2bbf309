-- Stored files, as files of a world, and the room for bytes in them.
use Rattle.std.specs.Prelude.{List, [], Option, None, Some, map}
use Rattle.posix_model.specs.declared.world.File.{File}
use Rattle.file_extents.specs.ChunkTable.{TableState, no_chunk}
use Rattle.file_table.specs.declared.stored_file.FileBody.{FileBody}
use Rattle.file_table.specs.declared.stored_file.StoredFile.{StoredFile}
use Rattle.posix_model.specs.declared.world.File.TheVariants as file
use Rattle.file_table.specs.declared.stored_file.FileBody.TheVariants as body

-- what is stored, as the file of a world
abbrev pub file_in : FileBody → File
file_in (body.Regular bytes) = file.Regular bytes.bytes
file_in (body.Fifo fifo) = file.Fifo fifo

-- no room for any byte
abbrev pub no_room : TableState
no_room = record { first = no_chunk; shelves = [] }

-- where there is room for bytes in a file: its table of chunks; none in a FIFO
abbrev pub room_in : FileBody → TableState
room_in (body.Regular bytes) = bytes.table
room_in (body.Fifo fifo) = no_room

-- a slot, as one of the files of a world
abbrev pub file_slot : Option StoredFile → Option File
file_slot None = None
file_slot (Some stored) = Some (file_in stored.body)

-- the same for each slot
abbrev pub file_slots : List (Option StoredFile) → List (Option File)
file_slots slots = map file_slot slots

-- the room for bytes at a slot
abbrev pub room_slot : Option StoredFile → TableState
room_slot None = no_room
room_slot (Some stored) = room_in stored.body

-- the same for each slot
abbrev pub room_slots : List (Option StoredFile) → List TableState
room_slots slots = map room_slot slots
