-- Numbered slots, of which some are free or gone.
use Rattle.std.specs.Prelude.{ℕ, suc, Bool, List, [], ◌∷◌, Option, None, if◌then◌else◌, slice_index_or, slice_set, position, is_none, is_some, count_by}
use Rattle.std.specs.Option.{option_map}

-- what stands at a number: nothing where the slot is free or gone, or past the last one
abbrev pub slot : {T : Type 0} → List (Option T) → ℕ → Option T
slot slots number = slice_index_or slots number None

-- the slots, of which the one at a number is edited if something stands there
abbrev pub edited : {T : Type 0} → ℕ → (T → T) → List (Option T) → List (Option T)
edited number edit slots = slice_set slots number (option_map edit (slot slots number))

-- the least number whose slot is free
abbrev pub lowest : {T : Type 0} → List (Option T) → Option ℕ
lowest slots = position is_none slots

-- how many are there
abbrev pub live : {T : Type 0} → List (Option T) → ℕ
live slots = count_by is_some slots

-- the slots from number n on, of which those that fail the test are emptied
abbrev pub kept_from : {T : Type 0} → (ℕ → Bool) → ℕ → List (Option T) → List (Option T)
kept_from keeps n [] = []
kept_from keeps n (first ∷ slots) = (if keeps n then first else None) ∷ kept_from keeps (suc n) slots

-- the slots, of which those whose numbers fail the test are emptied
abbrev pub kept : {T : Type 0} → (ℕ → Bool) → List (Option T) → List (Option T)
kept keeps slots = kept_from keeps 0 slots
