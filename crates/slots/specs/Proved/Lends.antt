-- What slots end as, where a value of theirs is lent to be edited.
use Rattle.std.specs.Prelude.{ℕ, List, Option, Some, slice_set}
use Rattle.std.specs.Borrow.{Lends, Fml, RattleType, MutBor}
use Rattle.slots.specs.contracts.numbered.Numbered.{the_row}

-- at the end of the borrow the slot has the value that was written last, and the room is as it was
abbrev pub lends_value : (T : RattleType) → MutBor (List (Option T.Denot) × ℕ) → ℕ → MutBor T.Denot → Fml
lends_value T slots number value = Lends (the_row T) T slots value (λ w. (slice_set slots.now.0 number (Some w), slots.now.1))
