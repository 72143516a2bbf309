-- The room that changes take.
use Rattle.std.specs.Prelude.{◌≡◌, ℕ, ◌+◌, ◌-◌, ◌<◌, ◌≤◌, ◌^◌, min, None}
use Rattle.slots.specs.Slots.{slot}
use Rattle.posix_model.specs.Descriptors.{held_in}
use Rattle.posix_model.specs.Pipes.{fifo_at, pipe_of_fifo}
use Rattle.machine_state.specs.Proved.Types.{Mode, NameEdit, FileEdit, ProcessEdit, TableEdit, Change}
use Rattle.posix_model.specs.declared.change.NameEdit.TheVariants as on_names
use Rattle.posix_model.specs.declared.change.FileEdit.TheVariants as on_files
use Rattle.posix_model.specs.declared.change.ProcessEdit.TheVariants as on_process
use Rattle.posix_model.specs.declared.change.TableEdit.TheVariants as on_table
use Rattle.file_extents.specs.Proved.Contents.{HasRoom as HasBytes, KeepsRoom as KeepsBytes}
use Rattle.file_table.specs.Proved.Files.{room_at, openings}
use Rattle.pipe_table.specs.Proved.Pipes.{block_at}
use Rattle.machine_state.specs.Held.{Room, Held}

-- the room of an edit of names stands reserved
abbrev pub HasNameRoom : Room → NameEdit → Type 0
HasNameRoom room (on_names.Remove name) = Unit {0}
HasNameRoom room other = 0 < room.names

-- a pipe has places for so many more bytes, or for as many more as it can hold
abbrev pub HasPutRoom : Held → ℕ → ℕ → Type 0
HasPutRoom m pipe count = min count (m.room.capacity - held_in m.world pipe) ≤ block_at m.room.blocks pipe - held_in m.world pipe

-- the room of an edit of files stands reserved
abbrev pub HasFileRoom : Held → FileEdit → Type 0
HasFileRoom m (on_files.Bytes file start count) = HasBytes (room_at m.room.bytes file) start count
HasFileRoom m (on_files.Names edit) = HasNameRoom m.room edit
HasFileRoom m (on_files.MakeFile name) = (0 < m.room.files) × (0 < m.room.names)
HasFileRoom m (on_files.MakeFifo name) = (0 < m.room.files) × (0 < m.room.names)
HasFileRoom m (on_files.Put pipe source count) = HasPutRoom m pipe count
HasFileRoom m other = Unit {0}

-- the room of an edit of processes stands reserved, where there is room for so many more
abbrev pub HasProcessRoom : ℕ → ProcessEdit → Type 0
HasProcessRoom processes (on_process.Add table attached) = 0 < processes
HasProcessRoom processes other = Unit {0}

-- the room of a new end of a FIFO stands reserved: a description, a pipe where the FIFO has none, and a number for one opening more
pub record HasEndRoom (m : Held) (file : ℕ) (mode : Mode) : Type 0 where
  pub description : 0 < m.room.descriptions
  pub pipe : pipe_of_fifo (fifo_at (slot m.world.files file)) ≡ None → 0 < m.room.pipes
  pub opening : openings mode (fifo_at (slot m.world.files file)) + 1 < 2 ^ 64

-- the room of an edit of descriptors stands reserved
abbrev pub HasTableRoom : Held → TableEdit → Type 0
HasTableRoom m (on_table.Open process fd description) = 0 < m.room.descriptions
HasTableRoom m (on_table.OpenPair process reading writing) = (2 ≤ m.room.descriptions) × (0 < m.room.pipes)
HasTableRoom m (on_table.OpenEnd process fd file description) = HasEndRoom m file description.mode
HasTableRoom m other = Unit {0}

-- the room of a change stands reserved
pub record HasRoom (m : Held) (c : Change) : Type 0 where
  pub files : HasFileRoom m c.files
  pub process : HasProcessRoom m.room.processes c.process
  pub table : HasTableRoom m c.table

-- no room is less than it was, and a pipe holds as many bytes
pub record KeepsRoom (old new : Room) : Type 0 where
  pub files : old.files ≤ new.files
  pub pipes : old.pipes ≤ new.pipes
  pub descriptions : old.descriptions ≤ new.descriptions
  pub processes : old.processes ≤ new.processes
  pub names : old.names ≤ new.names
  pub bytes : (file : ℕ) → KeepsBytes (room_at old.bytes file) (room_at new.bytes file)
  pub blocks : (pipe : ℕ) → block_at old.blocks pipe ≤ block_at new.blocks pipe
  pub capacity : new.capacity ≡ old.capacity

-- descriptions and pipes have the room that they had, and a pipe holds as many bytes
pub record KeepsOpenRoom (old new : Held) : Type 0 where
  pub descriptions : new.room.descriptions ≡ old.room.descriptions
  pub pipes : new.room.pipes ≡ old.room.pipes
  pub capacity : new.room.capacity ≡ old.room.capacity

-- and so have processes
pub record KeepsTableRoom (old new : Held) : Type 0 where
  pub descriptions : new.room.descriptions ≡ old.room.descriptions
  pub processes : new.room.processes ≡ old.room.processes
  pub pipes : new.room.pipes ≡ old.room.pipes
  pub capacity : new.room.capacity ≡ old.room.capacity
