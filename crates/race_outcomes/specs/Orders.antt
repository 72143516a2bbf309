-- Orders of moves, and what is reached by them. A move is told by the number of the lane that makes it.
use Rattle.std.specs.Prelude.{◌≡◌, ◌<◌, ℕ, List, [], ◌∷◌, Option, None, Some, length}
use Rattle.std.specs.List.{slice_get}

-- these moves, one after another, lead from a position to another
abbrev pub Leads : {P : Type 0} → (P → ℕ → Option P) → P → List ℕ → P → Type 0
Leads moves p [] q = p ≡ q
Leads {P} moves p (n ∷ ns) q = (between : P) × (moves p n ≡ Some between) × Leads moves between ns q

-- a position to which some moves lead
abbrev pub IsReached : {P : Type 0} → (P → ℕ → Option P) → P → P → Type 0
IsReached moves start p = (order : List ℕ) × Leads moves start order p

-- a position where nothing can move
abbrev pub IsEnd : {P : Type 0} → (P → ℕ → Option P) → P → Type 0
IsEnd moves p = (n : ℕ) → moves p n ≡ None

-- nothing stands at two places
abbrev pub AreApart : {X : Type 0} → List X → Type 0
AreApart {X} xs = (i k : ℕ) (x : X) → slice_get xs i ≡ Some x → slice_get xs k ≡ Some x → i ≡ k

-- there are more than so many different orders in which moves can be made from the start
pub record MoreOrders {P : Type 0} (moves : P → ℕ → Option P) (start : P) (most : ℕ) : Type 0 where
  pub orders : List (List ℕ)
  pub more : most < length orders
  pub apart : AreApart orders
  pub lead : (k : ℕ) (order : List ℕ) → slice_get orders k ≡ Some order → (p : P) × Leads moves start order p
