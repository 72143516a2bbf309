-- Stored pipes, as pipes of a world, and the room for more.
use Rattle.std.specs.Prelude.{ℕ, List, Option, None, Some, map, min}
use Rattle.pipe_table.specs.Ring.{Ring}
use Rattle.pipe_table.specs.declared.StoredPipe.{StoredPipe}

-- a slot, as one of the pipes of a world
abbrev pub pipe_slot : Option StoredPipe → Option (List ℕ)
pipe_slot None = None
pipe_slot (Some pipe) = Some pipe.ring.bytes

-- the same for each slot
abbrev pub pipe_slots : List (Option StoredPipe) → List (Option (List ℕ))
pipe_slots slots = map pipe_slot slots

-- for how many more pipes there is room, where there are so many numbers and places, and this ring is spare
abbrev pub pipe_room : ℕ → Option Ring → ℕ
pipe_room places None = 0
pipe_room places (Some ring) = min places 1
