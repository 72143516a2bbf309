-- What the mask of a table says of it.
use Rattle.std.specs.Prelude.{◌≡◌, ◌<◌, ℕ, List, Option, None, Some, length}
use Rattle.std.specs.Int.{bit_at}
use Rattle.slots.specs.Slots.{slot}
use Rattle.call_types.specs.declared.limits.TheConstants.{OPEN_MAX}

-- the bit of a descriptor with this entry
abbrev pub bit_of : Option ℕ → ℕ
bit_of None = 0
bit_of (Some description) = 1

-- a table of 32 descriptors (OPEN_MAX), each of which is open where its bit is 1
pub record Marks (bits : ℕ) (slots : List (Option ℕ)) : Type 0 where
  pub all : length slots ≡ OPEN_MAX
  pub each : (fd : ℕ) → fd < OPEN_MAX → bit_at bits fd ≡ bit_of (slot slots fd)
