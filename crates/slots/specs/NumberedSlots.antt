-- The slots that live entries stand for, each with its number.
use Rattle.std.specs.Prelude.{ℕ, ◌-◌, ◌^◌, ◌==◌, min, List, [], ◌∷◌, Option, None, Some, map, if◌then◌else◌}
use Rattle.std.specs.List.{range_with_len}

-- what stands at a number
abbrev pub found : {T : Type 0} → List (ℕ × T) → ℕ → Option T
found [] n = None
found (e ∷ es) n = if e.0 == n then Some e.1 else found es n

-- the slots up to the next number, with what stands at each
abbrev pub slots_of : {T : Type 0} → ℕ → List (ℕ × T) → List (Option T)
slots_of next es = map (found es) (range_with_len 0 next)

-- for how many more entries there are room and numbers
abbrev pub room_of : ℕ → ℕ → ℕ → ℕ
room_of capacity live next = min (capacity - live) (2 ^ 64 - 1 - next)
