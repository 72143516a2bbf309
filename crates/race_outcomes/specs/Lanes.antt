-- The calls of a race, a lane for each process.
use Rattle.std.specs.Prelude.{◌≡◌, ◌<◌, ℕ, List, [], ◌∷◌, ◌++◌, ◌==◌, true, false, Option, None, Some, map, if◌then◌else◌}
use Rattle.std.specs.List.{slice_get}
use Rattle.posix_model.specs.Types.{Call}
use Rattle.race_outcomes.specs.declared.lanes.Lane.{Lane}
use Rattle.race_outcomes.specs.Orders.{AreApart}

-- no two lanes are of one process
abbrev pub AreOfDifferent : List Lane → Type 0
AreOfDifferent lanes = AreApart (map (λ lane. lane.actor) lanes)

-- the first lane of a process stands at this place
pub record IsFirstOf (actor : ℕ) (lanes : List Lane) (place : ℕ) : Type 0 where
  pub lane : Lane
  pub stands : slice_get lanes place ≡ Some lane
  pub is : (lane.actor == actor) ≡ true
  pub first : (k : ℕ) (other : Lane) → k < place → slice_get lanes k ≡ Some other → (other.actor == actor) ≡ false

-- the first lane of a process stands at this place, or nowhere
abbrev pub IsPlaceOf : ℕ → List Lane → Option ℕ → Type 0
IsPlaceOf actor lanes None = (k : ℕ) (lane : Lane) → slice_get lanes k ≡ Some lane → (lane.actor == actor) ≡ false
IsPlaceOf actor lanes (Some place) = IsFirstOf actor lanes place

-- the lane with one call more
abbrev pub longer : Lane → Call → Lane
longer lane call = record { actor = lane.actor; calls = lane.calls ++ call ∷ [] }

-- the lanes with one call more of a process: its last one so far
abbrev pub with_call : ℕ → Call → List Lane → List Lane
with_call actor call [] = record { actor = actor; calls = call ∷ [] } ∷ []
with_call actor call (lane ∷ lanes) = if lane.actor == actor then longer lane call ∷ lanes else lane ∷ with_call actor call lanes
