-- Moves: what a process does next, and where that leads.
use Rattle.std.specs.Prelude.{ℕ, List, [], ◌∷◌, ◌++◌, ◌-◌, Bool, true, false, Option, None, Some, length, slice_set}
use Rattle.std.specs.List.{slice_get}
use Rattle.std.specs.Option.{option_map}
use Rattle.slots.specs.Slots.{slot}
use Rattle.posix_model.specs.Types.{Call, Act, Outcome, Bounds}
use Rattle.posix_model.specs.declared.world.World.{World}
use Rattle.posix_model.specs.Step.{is_parked, step, Stepped}
use Rattle.call_types.specs.declared.act.Act.TheVariants as act
use Rattle.race_outcomes.specs.declared.lanes.Lane.{Lane}
use Rattle.race_outcomes.specs.declared.position.Going.{Going}
use Rattle.race_outcomes.specs.declared.position.Position.{Position}

-- the act of a call
abbrev pub made : Option Call → Option Act
made None = None
made (Some c) = Some (act.Call c)

-- what a process does next that has begun so many of its calls: where it waits in one it goes on with that, else it makes the next
abbrev pub next_at : Bool → Lane → ℕ → Option Act
next_at true lane begun = Some act.Resume
next_at false lane begun = made (slice_get lane.calls begun)

-- what an act comes to
abbrev pub going : Bool → Act → Stepped → Going
going resumes act s = record { act = act; resumes = resumes; world = s.world; outcome = s.outcome }

-- what an act of a process comes to in a world, if there is one and it is a step
abbrev pub going_by : Bounds → World → ℕ → Bool → Option Act → Option Going
going_by bounds w actor resumes None = None
going_by bounds w actor resumes (Some act) = option_map (going resumes act) (step bounds w actor act)

-- what the next act of a lane comes to that has begun so many of its calls
abbrev pub going_on : Bounds → World → Lane → ℕ → Option Going
going_on bounds w lane begun = going_by bounds w lane.actor (is_parked (slot w.processes lane.actor))
    (next_at (is_parked (slot w.processes lane.actor)) lane begun)

-- the outcomes of a lane's calls after one more act: a call adds one, and what goes on with a call tells a new one of it
abbrev pub answered : Bool → List Outcome → Outcome → List Outcome
answered true told outcome = slice_set told (length told - 1) outcome
answered false told outcome = told ++ outcome ∷ []

-- where an act of a lane leads
abbrev pub moved : List (List Outcome) → ℕ → List Outcome → Going → Position
moved told number row g = record { world = g.world; told = slice_set told number (answered g.resumes row g.outcome) }

-- where the next act of a lane leads, where the lane may not be there
abbrev pub move_on : Bounds → Position → ℕ → Option Lane → Option (List Outcome) → Option Position
move_on bounds from number None row = None
move_on bounds from number (Some lane) None = None
move_on bounds from number (Some lane) (Some row) = option_map (moved from.told number row) (going_on bounds from.world lane (length row))

-- where a move of the lane of this number leads, if it can move
abbrev pub move : Bounds → List Lane → Position → ℕ → Option Position
move bounds lanes from number = move_on bounds from number (slice_get lanes number) (slice_get from.told number)
