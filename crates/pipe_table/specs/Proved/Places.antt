-- Places for bytes in a ring.
use Rattle.std.specs.Prelude.{ℕ, ◌-◌, ◌≤◌, length, min}
use Rattle.pipe_table.specs.Ring.{Ring}

-- its block has places for so many more bytes, or for as many more as it can hold
abbrev pub HasPlaces : Ring → ℕ → Type 0
HasPlaces ring count = min count (ring.capacity - length ring.bytes) ≤ ring.block - length ring.bytes
