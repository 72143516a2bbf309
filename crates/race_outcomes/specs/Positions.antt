-- What positions mean that name their worlds and answers by places: each world, and each row of answers of a lane, is kept once.
use Rattle.std.specs.Prelude.{ℕ, List, [], map, Option, None, Some}
use Rattle.std.specs.List.{slice_get}
use Rattle.posix_model.specs.Types.{Outcome}
use Rattle.posix_model.specs.declared.world.World.{World}
use Rattle.posix_model.specs.History.{empty_world}
use Rattle.race_outcomes.specs.declared.position.Position.{Position}
use Rattle.race_outcomes.specs.declared.positions.Explored.{Explored}
use Rattle.race_outcomes.specs.declared.positions.Met.{Met}
use Rattle.race_outcomes.specs.declared.positions.Spot.{Spot}

-- the world that is there; none is past the last place
abbrev pub or_empty : Option World → World
or_empty None = empty_world
or_empty (Some w) = w

-- the answers that are there; there are none past the last place
abbrev pub or_none : Option (List Outcome) → List Outcome
or_none None = []
or_none (Some row) = row

-- the answers at places
abbrev pub told_at : List (List Outcome) → List ℕ → List (List Outcome)
told_at rows places = map (λ place. or_none (slice_get rows place)) places

-- the position that has its world and its answers at places
abbrev pub position_of : List World → List (List Outcome) → Spot → Position
position_of worlds rows spot = record { world = or_empty (slice_get worlds spot.world); told = told_at rows spot.rows }

-- the same of one that was met
abbrev pub met_of : List World → List (List Outcome) → Met Spot → Met Position
met_of worlds rows m = record { position = position_of worlds rows m.position; by = m.by }

-- the positions that were met
abbrev pub positions : List World → List (List Outcome) → List (Met Spot) → List (Met Position)
positions worlds rows met = map (λ m. met_of worlds rows m) met

-- all that was met, with the places of the ends
abbrev pub explored_of : List World → List (List Outcome) → Explored Spot → Explored Position
explored_of worlds rows found = record { met = positions worlds rows found.met; ends = found.ends }
