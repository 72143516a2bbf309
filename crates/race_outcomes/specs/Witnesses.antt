-- The records of an order of moves: what a run records in which the processes of a race go on in this order.
use Rattle.std.specs.Prelude.{◌≡◌, ◌++◌, ◌∷◌, [], ℕ, List, Option, None, Some, length}
use Rattle.std.specs.List.{slice_get}
use Rattle.std.specs.Option.{option_map, option_map_or, option_to_list}
use Rattle.posix_model.specs.Types.{Outcome, Record, Bounds}
use Rattle.posix_model.specs.declared.world.World.{World}
use Rattle.posix_model.specs.History.{legal_from, world_from}
use Rattle.race_outcomes.specs.declared.lanes.Lane.{Lane}
use Rattle.race_outcomes.specs.declared.position.Going.{Going}
use Rattle.race_outcomes.specs.declared.position.Position.{Position}
use Rattle.race_outcomes.specs.Moves.{going_on, move}

-- the record of an act of a process
abbrev pub recorded_as : ℕ → Going → Record
recorded_as actor g = record { actor = actor; act = g.act; outcome = g.outcome }

-- what the next act of a lane is recorded as, where the lane may not be there
abbrev pub record_on : Bounds → World → Option Lane → Option (List Outcome) → Option Record
record_on bounds w None row = None
record_on bounds w (Some lane) None = None
record_on bounds w (Some lane) (Some row) = option_map (recorded_as lane.actor) (going_on bounds w lane (length row))

-- what a move of the lane of this number is recorded as, if it can move
abbrev pub record_of : Bounds → List Lane → Position → ℕ → Option Record
record_of bounds lanes from number = record_on bounds from.world (slice_get lanes number) (slice_get from.told number)

-- the records of these moves, one after another, from a position on; the first that cannot be made has none, and ends them
abbrev pub records_along : Bounds → List Lane → Position → List ℕ → List Record
records_along bounds lanes from [] = []
records_along bounds lanes from (n ∷ ns) = option_to_list (record_of bounds lanes from n) ++ option_map_or (λ to. records_along bounds lanes to ns)
    (move bounds lanes from n) []

-- each move of an order has its record, the records are what the model gives from a world on, and lead from it to another
pub record IsWitness (bounds : Bounds) (w : World) (order : List ℕ) (end : World) (records : List Record) : Type 0 where
  pub each : length records ≡ length order
  pub is_legal : legal_from bounds w records
  pub leads : world_from bounds w records ≡ end
