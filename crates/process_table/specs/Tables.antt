-- Free and open descriptors of a table.
use Rattle.std.specs.Prelude.{◌≡◌, ◌≤◌, ◌<◌, ℕ, true, is_some, List, Option, None, Some, slice_set}
use Rattle.std.specs.Option.{option_map}
use Rattle.slots.specs.Slots.{slot, lowest}

-- a free descriptor, and the lowest free one once it is taken
abbrev pub and_next : List (Option ℕ) → Option ℕ → Option (ℕ × ℕ)
and_next slots None = None
and_next slots (Some first) = option_map (λ second. (first, second)) (lowest (slice_set slots first (Some 0)))

-- the lowest free descriptor, and the lowest free one once that is taken (page of pipe)
abbrev pub two_lowest : List (Option ℕ) → Option (ℕ × ℕ)
two_lowest slots = and_next slots (lowest slots)

-- the least descriptor from a number on that is open
pub record IsNextOpen (slots : List (Option ℕ)) (from fd : ℕ) : Type 0 where
  pub after : from ≤ fd
  pub there : is_some (slot slots fd) ≡ true
  pub least : (k : ℕ) → from ≤ k → k < fd → slot slots k ≡ None

-- no descriptor from a number on is open
abbrev pub IsFreeFrom : List (Option ℕ) → ℕ → Type 0
IsFreeFrom slots from = (k : ℕ) → from ≤ k → slot slots k ≡ None
