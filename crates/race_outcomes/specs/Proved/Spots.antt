-- What a search keeps: worlds and rows of answers, each once, what each act came to, and positions that name them by places.
use Rattle.std.specs.Prelude.{◌≡◌, ◌<◌, ◌⊎◌, ◌++◌, ℕ, List, [], ◌∷◌, Option, None, Some, length, slice_set, IfSome}
use Rattle.std.specs.List.{slice_get}
use Rattle.std.specs.Option.{option_map}
use Rattle.posix_model.specs.Types.{Outcome, Bounds}
use Rattle.posix_model.specs.declared.world.World.{World}
use Rattle.race_outcomes.specs.declared.lanes.Lane.{Lane}
use Rattle.race_outcomes.specs.declared.position.Going.{Going}
use Rattle.race_outcomes.specs.declared.position.Position.{Position}
use Rattle.race_outcomes.specs.declared.positions.Met.{Met}
use Rattle.race_outcomes.specs.declared.positions.Move.{Move}
use Rattle.race_outcomes.specs.declared.positions.Spot.{Spot}
use Rattle.race_outcomes.specs.declared.search.Onward.{Onward}
use Rattle.race_outcomes.specs.declared.search.Search.{Search}
use Rattle.race_outcomes.specs.declared.search.Turn.{Turn}
use Rattle.race_outcomes.specs.declared.search.Way.{Way}
use Rattle.race_outcomes.specs.Moves.{answered, move, moved}
use Rattle.race_outcomes.specs.Positions.{or_empty, or_none, position_of, positions}
use Rattle.race_outcomes.specs.Tables.{StandsAt}

-- the positions that a search has met
abbrev pub met_in : Search → List (Met Position)
met_in search = positions search.worlds search.rows search.met

-- what stood in a list stands there still
abbrev pub Extends : {X : Type 0} → List X → List X → Type 0
Extends {X} old new = (more : List X) × (new ≡ old ++ more)

-- a value stands at the place of a table: it was there, or came last
abbrev pub Places : {T : Type 0} → (T → T) → List T → List T → T → ℕ → Type 0
Places key_of old new value place = ((new ≡ old) × StandsAt key_of old value place) ⊎ ((new ≡ old ++ value ∷ []) × (place ≡ length old))

-- a position names places that there are
pub record IsWithin (worlds : List World) (rows : List (List Outcome)) (spot : Spot) : Type 0 where
  pub in_worlds : spot.world < length worlds
  pub in_rows : (k row : ℕ) → slice_get spot.rows k ≡ Some row → row < length rows

-- where an act of a lane leads
abbrev pub led : List World → List (List Outcome) → ℕ → List Outcome → Onward → Position
led worlds told number row to = record { world = or_empty (slice_get worlds to.world); told = slice_set told number (answered to.resumes row to.outcome) }

-- the next act of a lane leads so from each position in this world
abbrev pub LeadsBy : Bounds → List Lane → World → Turn → (List (List Outcome) → List Outcome → Option Position) → Type 0
LeadsBy bounds lanes w turn to =
    (told : List (List Outcome)) (row : List Outcome) → slice_get told turn.lane ≡ Some row → length row ≡ turn.begun
    → move bounds lanes (record { world = w; told = told }) turn.lane ≡ to told row

-- the next act of a lane comes to this
abbrev pub GoesOn : Bounds → List Lane → List World → Turn → Option Going → Type 0
GoesOn bounds lanes worlds turn going =
    LeadsBy bounds lanes (or_empty (slice_get worlds turn.world)) turn (λ told row. option_map (λ g. moved told turn.lane row g) going)

-- the next act of a lane leads where this says
pub record IsWay (bounds : Bounds) (lanes : List Lane) (worlds : List World) (way : Way) : Type 0 where
  pub within : way.turn.world < length worlds
  pub target : IfSome way.to (λ to. to.world < length worlds)
  pub leads : LeadsBy bounds lanes (or_empty (slice_get worlds way.turn.world)) way.turn
      (λ told row. option_map (λ to. led worlds told way.turn.lane row to) way.to)

-- all places that are named are there, and each act that was made leads where it is said to
pub record IsKept (bounds : Bounds) (lanes : List Lane) (search : Search) : Type 0 where
  pub spots : (k : ℕ) (m : Met Spot) → slice_get search.met k ≡ Some m → IsWithin search.worlds search.rows m.position
  pub ways : (k : ℕ) (way : Way) → slice_get search.ways k ≡ Some way → IsWay bounds lanes search.worlds way

-- the place of the world that an act comes to
pub record NamesOne (old new : List World) (g : Going) (to : Option Onward) : Type 0 where
  pub onward : Onward
  pub is : to ≡ Some onward
  pub resumes : onward.resumes ≡ g.resumes
  pub outcome : onward.outcome ≡ g.outcome
  pub placed : Places (λ w. w) old new g.world onward.world

-- what an act comes to, by the place of its world
abbrev pub Names : List World → List World → Option Going → Option Onward → Type 0
Names old new None to = (to ≡ None) × (new ≡ old)
Names old new (Some g) to = NamesOne old new g to

-- what the next act of a lane comes to is noted
pub record LearnsWay (bounds : Bounds) (lanes : List Lane) (old new : Search) (turn : Turn) : Type 0 where
  pub met : new.met ≡ old.met
  pub rows : new.rows ≡ old.rows
  pub worlds : Extends old.worlds new.worlds
  pub way : Way
  pub is_turn : way.turn ≡ turn
  pub ways : new.ways ≡ old.ways ++ way ∷ []
  pub is : IsWay bounds lanes new.worlds way

-- what the next act of a lane comes to stands at this place
pub record FindsWay (bounds : Bounds) (lanes : List Lane) (old new : Search) (turn : Turn) (place : ℕ) : Type 0 where
  pub met : new.met ≡ old.met
  pub rows : new.rows ≡ old.rows
  pub worlds : Extends old.worlds new.worlds
  pub kept : IsKept bounds lanes new
  pub stands : StandsAt (λ way. way.turn) new.ways turn place

-- the position after an act of a lane, whose row of answers stands at a place
pub record GoesTo (old new : List (List Outcome)) (from : Spot) (lane row : ℕ) (to : Onward) (spot : Spot) : Type 0 where
  pub place : ℕ
  pub placed : Places (λ told. told) old new (answered to.resumes (or_none (slice_get old row)) to.outcome) place
  pub world : spot.world ≡ to.world
  pub rows : spot.rows ≡ slice_set from.rows lane place

-- a move leads so
pub record Moves (bounds : Bounds) (lanes : List Lane) (old new : Search) (by : Move) (to : Option Spot) : Type 0 where
  pub met : new.met ≡ old.met
  pub same : met_in new ≡ met_in old
  pub kept : IsKept bounds lanes new
  pub goes : (from : Met Spot) → slice_get old.met by.from ≡ Some from → move bounds lanes (position_of old.worlds old.rows from.position) by.lane ≡ option_map
      (position_of new.worlds new.rows) to
  pub within : IfSome to (IsWithin new.worlds new.rows)

-- one more position was met, or none
pub record TakesSpot (old new : Search) (next : Met Spot) : Type 0 where
  pub worlds : new.worlds ≡ old.worlds
  pub rows : new.rows ≡ old.rows
  pub ways : new.ways ≡ old.ways
  pub met : (new.met ≡ old.met) ⊎ (new.met ≡ old.met ++ next ∷ [])
