-- Files, each with its body and its counts.
use Rattle.std.specs.Prelude.{ℕ, ◌+◌, ◌-◌, ◌==◌, List, Option, None, Some, slice_index_or, if◌then◌else◌}
use Rattle.posix_model.specs.Pipes.{opened_once}
use Rattle.call_types.specs.declared.description.Mode.{Mode}
use Rattle.posix_model.specs.declared.world.Fifo.{Fifo}
use Rattle.slots.specs.declared.used.Used.{Used}
use Rattle.file_extents.specs.ChunkTable.{TableState}
use Rattle.file_extents.specs.ExtentsState.{ExtentsState}
use Rattle.file_table.specs.declared.stored_file.FileBody.{FileBody}
use Rattle.file_table.specs.declared.stored_file.StoredFile.{StoredFile}
use Rattle.call_types.specs.declared.description.Mode.TheVariants as mode
use Rattle.file_table.specs.declared.stored_file.FileBody.TheVariants as body
use Rattle.file_table.specs.StoredFiles.{no_room}

-- the bytes and the room of a regular file
abbrev pub extents_in : FileBody → Option ExtentsState
extents_in (body.Regular extents) = Some extents
extents_in (body.Fifo fifo) = None

-- the same of the file at a slot
abbrev pub extents_at : Option (Used StoredFile) → Option ExtentsState
extents_at None = None
extents_at (Some used) = extents_in used.value.body

-- a regular file with these bytes and this room
abbrev pub with_extents_in : ExtentsState → FileBody → FileBody
with_extents_in extents (body.Regular old) = body.Regular extents
with_extents_in extents (body.Fifo fifo) = body.Fifo fifo

-- the same of a file, with the names that it has
abbrev pub with_extents : ExtentsState → StoredFile → StoredFile
with_extents extents stored = record stored { body = with_extents_in extents stored.body }

-- a FIFO of which an end was opened once more, on this pipe
abbrev pub opened_body : Mode → ℕ → FileBody → FileBody
opened_body mode pipe (body.Regular bytes) = body.Regular bytes
opened_body mode pipe (body.Fifo fifo) = body.Fifo (opened_once mode pipe fifo)

-- the same of a file, with the names that it has
abbrev pub opened_stored : Mode → ℕ → StoredFile → StoredFile
opened_stored mode pipe stored = record stored { body = opened_body mode pipe stored.body }

-- another pipe than this, if there is one
abbrev pub other_pipe : ℕ → Option ℕ → Option ℕ
other_pipe pipe None = None
other_pipe pipe (Some known) = if known == pipe then None else Some known

-- a FIFO that forgets this pipe, if it is its own
abbrev pub forgetful_body : ℕ → FileBody → FileBody
forgetful_body pipe (body.Regular bytes) = body.Regular bytes
forgetful_body pipe (body.Fifo fifo) = body.Fifo (record fifo { pipe = other_pipe pipe fifo.pipe })

-- the same of a file, with the names that it has
abbrev pub forgetful : ℕ → StoredFile → StoredFile
forgetful pipe stored = record stored { body = forgetful_body pipe stored.body }

-- a file with one name more
abbrev pub named : StoredFile → StoredFile
named stored = record stored { links = stored.links + 1 }

-- a file with one name less
abbrev pub unnamed : StoredFile → StoredFile
unnamed stored = record stored { links = stored.links - 1 }

-- the room for bytes at a number
abbrev pub room_at : List TableState → ℕ → TableState
room_at rooms number = slice_index_or rooms number no_room

-- the number of names at a slot
abbrev pub links_at : Option StoredFile → ℕ
links_at None = 0
links_at (Some stored) = stored.links

-- how often the end of this mode was opened so far
abbrev pub openings : Mode → Option Fifo → ℕ
openings mode None = 0
openings mode.Read (Some fifo) = fifo.reader_openings
openings other (Some fifo) = fifo.writer_openings
