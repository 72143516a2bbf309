-- Slots without the counts of their uses.
use Rattle.std.specs.Prelude.{List, Option, None, Some, map}
use Rattle.slots.specs.declared.used.Used.{Used}

-- what is counted at a slot
abbrev pub value_at : {T : Type 0} → Option (Used T) → Option T
value_at None = None
value_at (Some used) = Some used.value

-- the slots without their counts
abbrev pub values_in : {T : Type 0} → List (Option (Used T)) → List (Option T)
values_in slots = map value_at slots
