-- How many bytes pipes have places for.
use Rattle.std.specs.Prelude.{ℕ, List, Option, None, Some, map}
use Rattle.pipe_table.specs.declared.StoredPipe.{StoredPipe}

-- how many bytes the pipe at a slot has places for
abbrev pub block_in : Option StoredPipe → ℕ
block_in None = 0
block_in (Some pipe) = pipe.ring.block

-- the same for each slot
abbrev pub block_slots : List (Option StoredPipe) → List ℕ
block_slots slots = map block_in slots
