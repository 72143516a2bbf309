-- All that the calls of a race may answer.
use Rattle.std.specs.Prelude.{◌≡◌, List, [], length, replicate}
use Rattle.posix_model.specs.Types.{Outcome, Bounds}
use Rattle.posix_model.specs.declared.world.World.{World}
use Rattle.race_outcomes.specs.declared.lanes.Lane.{Lane}
use Rattle.race_outcomes.specs.declared.position.Position.{Position}
use Rattle.race_outcomes.specs.Moves.{move}
use Rattle.race_outcomes.specs.Orders.{IsReached, IsEnd}

-- where a race begins: no call was made yet
abbrev pub start_of : List Lane → World → Position
start_of lanes world = record { world = world; told = replicate (length lanes) [] }

-- the calls of these lanes may answer so: some order of moves leads to an end with these outcomes
abbrev pub IsOutcome : Bounds → List Lane → World → List (List Outcome) → Type 0
IsOutcome bounds lanes world told =
    (end : Position) × IsReached (move bounds lanes) (start_of lanes world) end × IsEnd (move bounds lanes) end × (end.told ≡ told)
