-- Histories: lists of records, from the empty world on.
use Rattle.std.specs.Prelude.{◌≡◌, ℕ, false, List, [], ◌∷◌, Some}
use Rattle.std.specs.Option.{option_map_or}
use Rattle.posix_model.specs.Types.{Act, Record, Bounds, World}
use Rattle.posix_model.specs.Step.{outcome_of, step}

-- the world in which a run begins: there is nothing
abbrev pub empty_world : World
empty_world = record { files = []; pipes = []; descriptions = []; processes = []; names = []; closed = false }

-- the world after an act; an act that is no step leaves it
abbrev pub after_act : Bounds → World → ℕ → Act → World
after_act bounds w actor act = option_map_or (λ s. s.world) (step bounds w actor act) w

-- the world after one more record
abbrev pub after : Bounds → World → Record → World
after bounds w r = after_act bounds w r.actor r.act

-- the world after the records, from this one on
abbrev pub world_from : Bounds → World → List Record → World
world_from bounds w [] = w
world_from bounds w (r ∷ rs) = world_from bounds (after bounds w r) rs

-- each record has the outcome that the step gives in the world of the records before it
abbrev pub legal_from : Bounds → World → List Record → Type 0
legal_from bounds w [] = Unit {0}
legal_from bounds w (r ∷ rs) = (outcome_of bounds w r.actor r.act ≡ Some r.outcome) × legal_from bounds (after bounds w r) rs

-- the world after a history
abbrev pub world_of : Bounds → List Record → World
world_of bounds h = world_from bounds empty_world h

-- a history is what the one-thread model gives
abbrev pub legal : Bounds → List Record → Type 0
legal bounds h = legal_from bounds empty_world h
