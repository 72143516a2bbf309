-- Uses by entries, of which one that is free uses nothing.
use Rattle.std.specs.Prelude.{◌≡◌, ℕ, List, [], ◌∷◌, Option, None, Some}
use Rattle.slots.specs.Slots.{slot}
use Rattle.slots.specs.Proved.Uses.{uses_at, last_value, use_added, use_dropped}
use Rattle.machine_state.specs.Proved.Types.{Used}

-- each count is that of a total
abbrev pub Counts : {T : Type 0} → List (Option (Used T)) → (ℕ → ℕ) → Type 0
Counts slots total = (n : ℕ) → uses_at (slot slots n) ≡ total n

-- the slots after something refers to this, if it refers to any
abbrev pub with_use : {T : Type 0} → Option ℕ → List (Option (Used T)) → List (Option (Used T))
with_use None slots = slots
with_use (Some n) slots = use_added n slots

-- the slots after something refers to each of these
abbrev pub with_uses : {T : Type 0} → List (Option ℕ) → List (Option (Used T)) → List (Option (Used T))
with_uses [] slots = slots
with_uses (entry ∷ entries) slots = with_uses entries (with_use entry slots)

-- the slots after something refers to this no more, if it did to any
abbrev pub without_use : {T : Type 0} → Option ℕ → List (Option (Used T)) → List (Option (Used T))
without_use None slots = slots
without_use (Some n) slots = use_dropped n slots

-- the value that goes with that
abbrev pub lost : {T : Type 0} → Option ℕ → List (Option (Used T)) → Option T
lost None slots = None
lost (Some n) slots = last_value (slot slots n)
