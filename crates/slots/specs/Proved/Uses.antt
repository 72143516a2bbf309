-- Slots with a count of their uses, which are empty after the last use.
use Rattle.std.specs.Prelude.{ℕ, ◌+◌, ◌-◌, nat_lt, List, Option, None, Some, slice_set, if◌then◌else◌}
use Rattle.slots.specs.Slots.{slot, edited}
use Rattle.slots.specs.declared.used.Used.{Used}

-- the count at a slot
abbrev pub uses_at : {T : Type 0} → Option (Used T) → ℕ
uses_at None = 0
uses_at (Some used) = used.uses

-- a new value, with one use
abbrev pub used_once : {T : Type 0} → T → Used T
used_once value = record { value = value; uses = 1 }

-- a value that is used once more
abbrev pub one_more : {T : Type 0} → Used T → Used T
one_more used = record used { uses = used.uses + 1 }

-- a slot with one use less; it is empty after the last
abbrev pub one_less : {T : Type 0} → Option (Used T) → Option (Used T)
one_less None = None
one_less (Some used) = if nat_lt 1 used.uses then Some (record used { uses = used.uses - 1 }) else None

-- the value at a slot whose last use goes
abbrev pub last_value : {T : Type 0} → Option (Used T) → Option T
last_value None = None
last_value (Some used) = if nat_lt 1 used.uses then None else Some used.value

-- the slots after one use more of a value
abbrev pub use_added : {T : Type 0} → ℕ → List (Option (Used T)) → List (Option (Used T))
use_added number slots = edited number one_more slots

-- the slots after one use less
abbrev pub use_dropped : {T : Type 0} → ℕ → List (Option (Used T)) → List (Option (Used T))
use_dropped number slots = slice_set slots number (one_less (slot slots number))

-- the same value with as many uses, after an edit of the value
abbrev pub with_value : {T : Type 0} → (T → T) → Used T → Used T
with_value edit used = record used { value = edit used.value }
