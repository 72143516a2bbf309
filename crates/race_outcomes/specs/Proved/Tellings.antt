-- Where the answers of calls stand, and what was told so far.
use Rattle.std.specs.Prelude.{◌≡◌, ◌<◌, ℕ, ◌+◌, ◌==◌, List, [], ◌∷◌, ◌++◌, map, Option, None, Some, if◌then◌else◌}
use Rattle.std.specs.List.{Contains, slice_get}
use Rattle.std.specs.Option.{option_map}
use Rattle.posix_model.specs.Types.{Outcome}
use Rattle.script_text.specs.Answers.{answers_text}
use Rattle.script_text.specs.declared.races.RaceCall.{RaceCall}
use Rattle.race_outcomes.specs.declared.lanes.Lane.{Lane}
use Rattle.race_outcomes.specs.declared.position.Position.{Position}
use Rattle.race_outcomes.specs.declared.positions.Met.{Met}
use Rattle.race_outcomes.specs.declared.tellings.Seat.{Seat}
use Rattle.race_outcomes.specs.declared.tellings.Told.{Told}
use Rattle.race_outcomes.specs.Tellings.{Agrees, made_by, texts}

-- the place of the first lane of a process
abbrev pub lane_place : ℕ → List Lane → Option ℕ
lane_place process [] = None
lane_place process (lane ∷ lanes) = if lane.actor == process then Some 0 else option_map (λ place. place + 1) (lane_place process lanes)

-- where the answer of a call stands that is made behind others
abbrev pub seat_of : List Lane → List RaceCall → RaceCall → Seat
seat_of lanes before c = record { lane = lane_place c.process lanes; place = made_by c.process before }

-- the same for calls, one after another
abbrev pub seats_from : List Lane → List RaceCall → List RaceCall → List Seat
seats_from lanes before [] = []
seats_from lanes before (c ∷ cs) = seat_of lanes before c ∷ seats_from lanes (before ++ c ∷ []) cs

-- what stands at this place of a row, if the row is there
abbrev pub in_row : Option (List Outcome) → ℕ → Option Outcome
in_row None place = None
in_row (Some row) place = slice_get row place

-- what stands at this place of a lane
abbrev pub in_lane : List (List Outcome) → Option ℕ → ℕ → Option Outcome
in_lane told None place = None
in_lane told (Some lane) place = in_row (slice_get told lane) place

-- the answer at a seat
abbrev pub answer_at : List (List Outcome) → Seat → Option Outcome
answer_at told seat = in_lane told seat.lane seat.place

-- the answers at seats
abbrev pub answers_at : List (List Outcome) → List Seat → List (Option Outcome)
answers_at told seats = map (λ seat. answer_at told seat) seats

-- the position at the place tells this text, and agrees with what is asked for
pub record SaysAt (calls : List RaceCall) (seats : List Seat) (met : List (Met Position)) (t : Told) : Type 0 where
  pub entry : Met Position
  pub stands : slice_get met t.place ≡ Some entry
  pub agrees : Agrees calls (answers_at entry.position.told seats)
  pub text : t.text.items ≡ answers_text (answers_at entry.position.told seats)

-- what the position at a place tells, or nothing where it doesn't agree with what is asked for
abbrev pub SaysOrNot : List RaceCall → List Seat → List (Met Position) → ℕ → Option Told → Type 0
SaysOrNot calls seats met place None = (m : Met Position) → slice_get met place ≡ Some m → Agrees calls (answers_at m.position.told seats) → ⊥
SaysOrNot calls seats met place (Some t) = SaysAt calls seats met t × (t.place ≡ place)

-- what the first so many of these places tell
pub record SaidBelow (calls : List RaceCall) (seats : List Seat) (met : List (Met Position)) (ends : List ℕ) (done : ℕ) (told : List Told) : Type 0 where
  pub sound : (t : Told) → Contains told t → SaysAt calls seats met t × Contains ends t.place
  pub complete : (i place : ℕ) (m : Met Position) → i < done → slice_get ends i ≡ Some place → slice_get met place ≡ Some m →
      Agrees calls (answers_at m.position.told seats)
      → Contains (texts told) (answers_text (answers_at m.position.told seats))

-- what all these places tell
pub record SaidAll (calls : List RaceCall) (seats : List Seat) (met : List (Met Position)) (ends : List ℕ) (told : List Told) : Type 0 where
  pub sound : (t : Told) → Contains told t → SaysAt calls seats met t × Contains ends t.place
  pub complete : (place : ℕ) (m : Met Position) → Contains ends place → slice_get met place ≡ Some m → Agrees calls (answers_at m.position.told seats)
      → Contains (texts told) (answers_text (answers_at m.position.told seats))
