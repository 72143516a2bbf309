-- What a search of all positions finds.
use Rattle.std.specs.Prelude.{◌≡◌, ◌<◌, ℕ, List, Option, None, Some}
use Rattle.std.specs.List.{Contains, slice_get}
use Rattle.race_outcomes.specs.declared.positions.Met.{Met}
use Rattle.race_outcomes.specs.declared.positions.Move.{Move}
use Rattle.race_outcomes.specs.declared.positions.Explored.{Explored}
use Rattle.race_outcomes.specs.Orders.{Leads, IsReached, IsEnd}

-- a position is among those that were met
pub record Has {P : Type 0} (met : List (Met P)) (p : P) : Type 0 where
  pub place : ℕ
  pub entry : Met P
  pub stands : slice_get met place ≡ Some entry
  pub is : entry.position ≡ p

-- this move from a position that was met before leads to a position
pub record ComesBy {P : Type 0} (moves : P → ℕ → Option P) (met : List (Met P)) (place : ℕ) (p : P) (by : Move) : Type 0 where
  pub before : by.from < place
  pub entry : Met P
  pub stands : slice_get met by.from ≡ Some entry
  pub goes : moves entry.position by.lane ≡ Some p

-- how a position was met: as the first, or by a move
abbrev pub IsTraced : {P : Type 0} → (P → ℕ → Option P) → List (Met P) → ℕ → P → Option Move → Type 0
IsTraced moves met place p None = place ≡ 0
IsTraced moves met place p (Some by) = ComesBy moves met place p by

-- of each position it is known how it was met
abbrev pub AreTraced : {P : Type 0} → (P → ℕ → Option P) → List (Met P) → Type 0
AreTraced {P} moves met = (k : ℕ) (m : Met P) → slice_get met k ≡ Some m → IsTraced moves met k m.position m.by

-- this order of moves leads from the position at a place to the one at another
abbrev pub LeadsBetween : {P : Type 0} → (P → ℕ → Option P) → List (Met P) → ℕ → ℕ → List ℕ → Type 0
LeadsBetween {P} moves met from to order =
    (first last : Met P) → slice_get met from ≡ Some first → slice_get met to ≡ Some last → Leads moves first.position order last.position

-- this order of moves leads from the first position that was met to the one at a place
abbrev pub LeadsTo : {P : Type 0} → (P → ℕ → Option P) → List (Met P) → ℕ → List ℕ → Type 0
LeadsTo moves met place order = LeadsBetween moves met 0 place order

-- an end stands at this place
pub record EndsAt {P : Type 0} (moves : P → ℕ → Option P) (met : List (Met P)) (place : ℕ) : Type 0 where
  pub entry : Met P
  pub stands : slice_get met place ≡ Some entry
  pub end : IsEnd moves entry.position

-- all positions that are reached from the start, how each was met, and the places of those where nothing can move
pub record IsExplored {P : Type 0} (moves : P → ℕ → Option P) (start : P) (explored : Explored P) : Type 0 where
  pub begun : slice_get explored.met 0 ≡ Some (record { position = start; by = None })
  pub traced : AreTraced moves explored.met
  pub sound : (k : ℕ) (m : Met P) → slice_get explored.met k ≡ Some m → IsReached moves start m.position
  pub complete : (p : P) → IsReached moves start p → Has explored.met p
  pub ends : (k : ℕ) → Contains explored.ends k → EndsAt moves explored.met k
  pub all_ends : (k : ℕ) → EndsAt moves explored.met k → Contains explored.ends k
