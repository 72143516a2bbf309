-- Descriptors of a process, the open file descriptions that they lead to, and what files and pipes hold.
use Rattle.std.specs.Prelude.{ℕ, ℤ, pos, negsuc, List, [], Option, None, Some, length}
use Rattle.call_types.specs.Descriptions.{described}
use Rattle.slots.specs.Slots.{slot, edited}
use Rattle.process_table.specs.Processes.{table_of, with_entry}
use Rattle.posix_model.specs.Types.{World, Description, DescriptionEdit, File, OpenDescriptor}
use Rattle.posix_model.specs.declared.world.File.TheVariants as file

-- the description of this number, with the descriptor that refers to it
abbrev pub opened_description : ℕ → ℕ → Option Description → Option OpenDescriptor
opened_description fd number None = None
opened_description fd number (Some description) = Some (record { fd = fd; number = number; description = description })

-- what a descriptor refers to, if it is open
abbrev pub opened_number : World → ℕ → Option ℕ → Option OpenDescriptor
opened_number w fd None = None
opened_number w fd (Some number) = opened_description fd number (slot w.descriptions number)

-- a descriptor of a process, if it is open (EBADF is told of any other number)
abbrev pub opened : World → ℕ → ℤ → Option OpenDescriptor
opened w process (pos fd) = opened_number w fd (slot (table_of (slot w.processes process)) fd)
opened w process (negsuc n) = None

-- the world in which a descriptor of a process refers to this, or is free
abbrev pub with_descriptor : World → ℕ → ℕ → Option ℕ → World
with_descriptor w process fd entry = record w { processes = edited process (with_entry fd entry) w.processes }

-- the world in which a description has another offset, or other flags
abbrev pub with_edit : World → ℕ → DescriptionEdit → World
with_edit w number edit = record w { descriptions = edited number (described edit) w.descriptions }

-- the bytes of a regular file
abbrev pub file_bytes : Option File → List ℕ
file_bytes None = []
file_bytes (Some (file.Regular bytes)) = bytes
file_bytes (Some (file.Fifo fifo)) = []

-- the bytes of the regular file of this number
abbrev pub bytes_of : World → ℕ → List ℕ
bytes_of w number = file_bytes (slot w.files number)

-- the bytes of a pipe that is there
abbrev pub pipe_bytes : Option (List ℕ) → List ℕ
pipe_bytes None = []
pipe_bytes (Some bytes) = bytes

-- how many bytes a pipe holds now
abbrev pub held_in : World → ℕ → ℕ
held_in w pipe = length (pipe_bytes (slot w.pipes pipe))
