use Rattle.std.proofs.Common.{◌≡◌, ◌<◌, ◌==◌, ℕ, false, Some}
use Rattle.std.specs.List.{slice_get}
use Rattle.race_outcomes.specs.declared.lanes.Lane.{Lane}
use Rattle.race_outcomes.proofs.lanes.place_of.Given as goal

-- none of the lanes before is of this process
abbrev pub invariant-loop-place : goal.invariant-loop-place
invariant-loop-place l = (k : ℕ) (other : Lane) → k < l.place → slice_get l.lanes k ≡ Some other → (other.actor == l.actor) ≡ false
