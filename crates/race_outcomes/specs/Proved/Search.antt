-- What a search has done so far.
use Rattle.std.specs.Prelude.{◌≡◌, ◌<◌, ◌≤◌, ◌+◌, ◌++◌, ◌⊎◌, ◌↔◌, ℕ, List, [], ◌∷◌, Bool, true, false, Option, None, Some, length}
use Rattle.std.specs.List.{Contains, slice_get}
use Rattle.race_outcomes.specs.declared.positions.Met.{Met}
use Rattle.race_outcomes.specs.declared.positions.Move.{Move}
use Rattle.race_outcomes.specs.Orders.{Leads, IsEnd, AreApart}
use Rattle.race_outcomes.specs.Search.{Has, AreTraced, LeadsBetween, EndsAt}

-- a search comes to a place and lane before it comes to others
abbrev pub IsBefore : ℕ → ℕ → ℕ → ℕ → Type 0
IsBefore place lane until_place until_lane = (place < until_place) ⊎ ((place ≡ until_place) × (lane < until_lane))

-- the order of moves to a position goes on from the order to another by one move, which was made before a place and lane
pub record GoesOn (place lane : ℕ) (orders : List (List ℕ)) (order : List ℕ) (by : Move) : Type 0 where
  pub done : IsBefore by.from by.lane place lane
  pub front : List ℕ
  pub stands : slice_get orders by.from ≡ Some front
  pub is : order ≡ front ++ by.lane ∷ []

-- the order of moves to the first position is empty, and that to another goes on
abbrev pub IsOrder : ℕ → ℕ → List (List ℕ) → List ℕ → Option Move → Type 0
IsOrder place lane orders order None = order ≡ []
IsOrder place lane orders order (Some by) = GoesOn place lane orders order by

-- the order of moves by which a position was met
pub record OrderOf {P : Type 0} (moves : P → ℕ → Option P) (start : P) (place lane : ℕ) (orders : List (List ℕ)) (k : ℕ) (m : Met P) : Type 0 where
  pub order : List ℕ
  pub stands : slice_get orders k ≡ Some order
  pub leads : Leads moves start order m.position
  pub goes_on : IsOrder place lane orders order m.by

-- all moves before this place and lane were made: where they lead is there, and nothing else
pub record Searched {P : Type 0} (moves : P → ℕ → Option P) (start : P) (most place lane : ℕ) (met : List (Met P)) : Type 0 where
  pub few : length met ≤ most
  pub begun : slice_get met 0 ≡ Some (record { position = start; by = None })
  pub traced : AreTraced moves met
  pub orders : List (List ℕ)
  pub many : length orders ≡ length met
  pub apart : AreApart orders
  pub order_of : (k : ℕ) (m : Met P) → slice_get met k ≡ Some m → OrderOf moves start place lane orders k m
  pub closed : (k n : ℕ) (m : Met P) (q : P) → IsBefore k n place lane → slice_get met k ≡ Some m → moves m.position n ≡ Some q → Has met q

-- a position is there: it was before, or comes in as one more
abbrev pub TakesIn : {P : Type 0} → ℕ → List (Met P) → List (Met P) → Met P → Type 0
TakesIn most old new m = ((new ≡ old) × Has old m.position) ⊎ ((new ≡ old ++ m ∷ []) × (length old < most))

-- what was there stands where it stood
abbrev pub Keeps : {P : Type 0} → List (Met P) → List (Met P) → Type 0
Keeps {P} old new = (k : ℕ) (m : Met P) → slice_get old k ≡ Some m → slice_get new k ≡ Some m

-- the move of one lane from a place was made, and is told to be none or not
pub record TakesMove {P : Type 0} (moves : P → ℕ → Option P) (most place lane : ℕ) (old new : List (Met P)) (goes : Bool) : Type 0 where
  pub on : (start : P) → Searched moves start most place lane old → Searched moves start most place (lane + 1) new
  pub kept : Keeps old new
  pub tells : (m : Met P) → slice_get old place ≡ Some m → (goes ≡ false) ↔ (moves m.position lane ≡ None)

-- the moves of the lanes below this one were made from a place
pub record TakesBelow {P : Type 0} (moves : P → ℕ → Option P) (most place upto : ℕ) (old new : List (Met P)) (goes : Bool) : Type 0 where
  pub on : (start : P) → Searched moves start most place 0 old → Searched moves start most place upto new
  pub kept : Keeps old new
  pub tells : (m : Met P) → slice_get old place ≡ Some m → (goes ≡ false) ↔ ((n : ℕ) → n < upto → moves m.position n ≡ None)

-- the moves of all lanes were made from a place
pub record TakesMoves {P : Type 0} (moves : P → ℕ → Option P) (most place : ℕ) (old new : List (Met P)) (goes : Bool) : Type 0 where
  pub on : (start : P) → Searched moves start most place 0 old → Searched moves start most (place + 1) 0 new
  pub kept : Keeps old new
  pub tells : (m : Met P) → slice_get old place ≡ Some m → (goes ≡ false) ↔ IsEnd moves m.position

-- the place of a position where nothing can move is noted
abbrev pub NotesEnd : List ℕ → List ℕ → ℕ → Bool → Type 0
NotesEnd old new place goes = ((goes ≡ true) × (new ≡ old)) ⊎ ((goes ≡ false) × (new ≡ old ++ place ∷ []))

-- the ends among the first so many positions are noted
pub record NotedEnds {P : Type 0} (moves : P → ℕ → Option P) (met : List (Met P)) (done : ℕ) (ends : List ℕ) : Type 0 where
  pub sound : (k : ℕ) → Contains ends k → EndsAt moves met k
  pub complete : (k : ℕ) → k < done → EndsAt moves met k → Contains ends k

-- the places before this one are searched, and the ends among them noted
pub record SoFar {P : Type 0} (moves : P → ℕ → Option P) (start : P) (most place : ℕ) (met : List (Met P)) (ends : List ℕ) : Type 0 where
  pub searched : Searched moves start most place 0 met
  pub noted : NotedEnds moves met place ends

-- the move by which a position was met leads on to where the position leads
pub record GoesBack {P : Type 0} (moves : P → ℕ → Option P) (met : List (Met P)) (at : ℕ) (by : Move) : Type 0 where
  pub before : by.from < at
  pub within : by.from < length met
  pub leads : (place : ℕ) (order : List ℕ) → LeadsBetween moves met at place order → LeadsBetween moves met by.from place (by.lane ∷ order)
