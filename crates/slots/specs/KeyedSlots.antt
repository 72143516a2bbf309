-- The slots that entries under keys stand for.
use Rattle.std.specs.Prelude.{ℕ, ◌==◌, List, [], ◌∷◌, Option, None, Some, map, if◌then◌else◌}
use Rattle.std.specs.List.{range_with_len}
use Rattle.slots.specs.declared.keyed.Entry.{Entry}

-- what stands at a number
abbrev pub found : {T : Type 0} → List (Option (Entry T)) → ℕ → Option T
found [] n = None
found (None ∷ es) n = found es n
found (Some e ∷ es) n = if e.number == n then Some e.value else found es n

-- the slots up to the next number, with what stands at each
abbrev pub slots_of : {T : Type 0} → ℕ → List (Option (Entry T)) → List (Option T)
slots_of next es = map (found es) (range_with_len 0 next)
