-- Pipes, each with the counts of its open ends.
use Rattle.std.specs.Prelude.{◌≡◌, ℕ, ◌+◌, ◌-◌, ◌<◌, List, [], Option, None, Some, length, slice_index_or}
use Rattle.slots.specs.Slots.{slot}
use Rattle.slots.specs.declared.used.Used.{Used}
use Rattle.call_types.specs.declared.description.Mode.{Mode}
use Rattle.call_types.specs.declared.description.Mode.TheVariants as mode
use Rattle.pipe_table.specs.Ring.{Ring}
use Rattle.pipe_table.specs.Proved.Places.{HasPlaces}
use Rattle.pipe_table.specs.declared.StoredPipe.{StoredPipe}
use Rattle.pipe_table.specs.Blocks.{block_in}

-- the bytes of the pipe at a slot; none where it is gone
abbrev pub held_at : Option StoredPipe → List ℕ
held_at None = []
held_at (Some pipe) = pipe.ring.bytes

-- how many ends at a slot can read
abbrev pub readers_at : Option StoredPipe → ℕ
readers_at None = 0
readers_at (Some pipe) = pipe.readers

-- how many ends at a slot can write
abbrev pub writers_at : Option StoredPipe → ℕ
writers_at None = 0
writers_at (Some pipe) = pipe.writers

-- how many bytes the pipe of a number has places for
abbrev pub block_at : List ℕ → ℕ → ℕ
block_at blocks number = slice_index_or blocks number 0

-- for how many more bytes the pipe at a slot has places
abbrev pub places_left : Option StoredPipe → ℕ
places_left slot = block_in slot - length (held_at slot)

-- the pipe at this number is there, and has places for so many more bytes, or for as many more as it can hold
abbrev pub HasPlacesAt : List (Option (Used StoredPipe)) → ℕ → ℕ → Type 0
HasPlacesAt pipes number count = (used : Used StoredPipe) × (slot pipes number ≡ Some used) × HasPlaces used.value.ring count

-- a pipe with other bytes
abbrev pub edited_ring : (List ℕ → List ℕ) → StoredPipe → StoredPipe
edited_ring edit pipe = record pipe { ring = record { bytes = edit pipe.ring.bytes; capacity = pipe.ring.capacity; block = pipe.ring.block } }

-- a pipe with places for so many bytes
abbrev pub with_block : ℕ → StoredPipe → StoredPipe
with_block block pipe = record pipe { ring = record { bytes = pipe.ring.bytes; capacity = pipe.ring.capacity; block = block } }

-- a pipe that no end was opened of
abbrev pub endless : Ring → StoredPipe
endless ring = record { ring = ring; readers = 0; writers = 0 }

-- a pipe with one end more
abbrev pub with_end : Mode → StoredPipe → StoredPipe
with_end mode.Read pipe = record pipe { readers = pipe.readers + 1 }
with_end mode.Write pipe = record pipe { writers = pipe.writers + 1 }
with_end mode.ReadWrite pipe = record pipe { readers = pipe.readers + 1; writers = pipe.writers + 1 }

-- a pipe with one end less
abbrev pub without_end : Mode → StoredPipe → StoredPipe
without_end mode.Read pipe = record pipe { readers = pipe.readers - 1 }
without_end mode.Write pipe = record pipe { writers = pipe.writers - 1 }
without_end mode.ReadWrite pipe = record pipe { readers = pipe.readers - 1; writers = pipe.writers - 1 }

-- a pipe has an end of this mode
abbrev pub HasEnd : Mode → StoredPipe → Type 0
HasEnd mode.Read pipe = 0 < pipe.readers
HasEnd mode.Write pipe = 0 < pipe.writers
HasEnd mode.ReadWrite pipe = (0 < pipe.readers) × (0 < pipe.writers)

-- the pipe at this number is there, and has an end of this mode
abbrev pub HasEndAt : List (Option (Used StoredPipe)) → Mode → ℕ → Type 0
HasEndAt pipes mode number = (used : Used StoredPipe) × (slot pipes number ≡ Some used) × HasEnd mode used.value
