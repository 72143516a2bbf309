-- Moves of lanes.
use Rattle.std.proofs.Common.{◌≡◌, ◌≤◌, ℕ, List, None, length, ap}
use Rattle.std.specs.List.{slice_get}
use Rattle.std.proofs.lemmas.Option.{slice_get_past}
use Rattle.posix_model.specs.Types.{Bounds}
use Rattle.race_outcomes.specs.declared.lanes.Lane.{Lane}
use Rattle.race_outcomes.specs.declared.position.Position.{Position}
use Rattle.race_outcomes.specs.Moves.{move, move_on}

-- there is no lane past the last one
pub move_past : (bounds : Bounds) (lanes : List Lane) (p : Position) (n : ℕ) → length lanes ≤ n → move bounds lanes p n ≡ None
move_past bounds lanes p n beyond = ap (λ l. move_on bounds p n l (slice_get p.told n)) (slice_get_past lanes n beyond)
