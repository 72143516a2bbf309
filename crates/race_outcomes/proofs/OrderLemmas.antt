-- Orders of moves.
use Rattle.std.proofs.Common.{◌≡◌, ℕ, List, [], ◌∷◌, ◌++◌, Option, Some, refl, sym, subst}
use Rattle.race_outcomes.specs.Orders.{Leads}

-- one move more
pub leads_more : {P : Type 0} (moves : P → ℕ → Option P) (p q r : P) (ns : List ℕ) (n : ℕ) → Leads moves p ns q → moves q n ≡ Some r →
    Leads moves p (ns ++ n ∷ []) r
leads_more moves p q r [] n same goes = (r, subst (λ x. moves x n ≡ Some r) (sym same) goes, refl)
leads_more moves p q r (m ∷ ns) n leads goes = (leads.0, leads.1, leads_more moves leads.0 q r ns n leads.2 goes)

-- a collection in which each move of what is there leads to what is there has all that is reached from what is there
pub closed_leads : {P : Type 0} (moves : P → ℕ → Option P) (There : P → Type 0) → ((p q : P) (n : ℕ) → There p → moves p n ≡ Some q → There q) →
    (p q : P) (ns : List ℕ) → There p → Leads moves p ns q → There q
closed_leads moves There closed p q [] there same = subst There same there
closed_leads moves There closed p q (n ∷ ns) there leads = closed_leads moves There closed leads.0 q ns (closed p leads.0 n there leads.1) leads.2
