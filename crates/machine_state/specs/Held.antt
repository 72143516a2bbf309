-- What contracts see of a machine: its world, and the room reserved.
use Rattle.std.specs.Prelude.{ℕ, Bool, List, Option}
use Rattle.call_types.specs.Names.{Entries}
use Rattle.posix_model.specs.declared.world.World.{World}
use Rattle.process_table.specs.declared.process.Process.{Process}
use Rattle.call_types.specs.declared.description.Description.{Description}
use Rattle.slots.specs.declared.used.Used.{Used}
use Rattle.pipe_table.specs.Ring.{Ring}
use Rattle.file_extents.specs.ChunkTable.{TableState}
use Rattle.file_table.specs.declared.stored_file.StoredFile.{StoredFile}
use Rattle.pipe_table.specs.declared.StoredPipe.{StoredPipe}
use Rattle.slots.specs.UsedSlots.{values_in}
use Rattle.file_table.specs.StoredFiles.{file_slots, room_slots}
use Rattle.pipe_table.specs.Blocks.{block_slots}
use Rattle.machine_state.specs.StoredPipes.{pipe_slots, pipe_room}
use Rattle.machine_state.specs.declared.machine.Machine.TheInside.{Inside}

-- for how many more files, pipes, descriptions, processes and names there is room, for which bytes in each file, how many
-- bytes each pipe has places for, and how many each can hold, which never changes
pub record Room : Type 0 where
  pub files : ℕ
  pub pipes : ℕ
  pub descriptions : ℕ
  pub processes : ℕ
  pub names : ℕ
  pub bytes : List TableState
  pub blocks : List ℕ
  pub capacity : ℕ

-- a machine, as contracts see it
pub record Held : Type 0 where
  pub world : World
  pub room : Room

-- what a machine stores: its files, pipes and descriptions have the counts of their uses; a ring stands by for the next pipe
pub record Stored : Type 0 where
  pub files : List (Option (Used StoredFile))
  pub pipes : List (Option (Used StoredPipe))
  pub descriptions : List (Option (Used Description))
  pub processes : List (Option Process)
  pub names : Entries
  pub closed : Bool
  pub spare : Option Ring
  pub capacity : ℕ

-- its world
abbrev pub world_in : Stored → World
world_in s = record {
  files = file_slots (values_in s.files);
  pipes = pipe_slots (values_in s.pipes);
  descriptions = values_in s.descriptions;
  processes = s.processes;
  names = s.names;
  closed = s.closed;
}

-- what is inside a machine
abbrev pub stored_in : Inside → Stored
stored_in m = record {
  files = m.files.0;
  pipes = m.pipes.0;
  descriptions = m.descriptions.0;
  processes = m.processes.0;
  names = m.names.0;
  closed = m.closed;
  spare = m.spare;
  capacity = m.capacity;
}

-- what contracts see of it
abbrev pub held_by : Inside → Held
held_by m = record {
  world = world_in (stored_in m);
  room = record {
    files = m.files.1;
    pipes = pipe_room m.pipes.1 m.spare;
    descriptions = m.descriptions.1;
    processes = m.processes.1;
    names = m.names.1;
    bytes = room_slots (values_in m.files.0);
    blocks = block_slots (values_in m.pipes.0);
    capacity = m.capacity;
  };
}
