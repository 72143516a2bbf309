-- What stands at a place of a list.
use Rattle.std.proofs.Common.{◌≡◌, ◌∙◌, ◌<◌, ◌≤◌, ◌+◌, ◌++◌, ◌⊎◌, ℕ, List, [], ◌∷◌, Option, None, Some, length, zero, suc, refl, sym, subst, inl, inr, arith}
use Rattle.std.specs.List.{Contains, slice_get}
use Rattle.std.proofs.lemmas.Bool.{cases_lt}
use Rattle.std.proofs.lemmas.List.{length_push}
use Rattle.std.proofs.lemmas.Option.{slice_get_within, get_or_from_slice_get, slice_get_read}
use Rattle.race_outcomes.specs.Orders.{AreApart}

-- what stands in a front stands there in the whole
pub get_front : {X : Type 0} (xs ys : List X) (k : ℕ) → k < length xs → slice_get (xs ++ ys) k ≡ slice_get xs k
get_front [] ys k within = absurd (omega (arith, within))
get_front (x ∷ xs) ys zero within = refl
get_front (x ∷ xs) ys (suc k) within = get_front xs ys k (omega (arith, within))

-- what is pushed stands last
pub get_last : {X : Type 0} (xs : List X) (x : X) → slice_get (xs ++ x ∷ []) (length xs) ≡ Some x
get_last [] x = refl
get_last (y ∷ xs) x = get_last xs x

pub same_some : {X : Type 0} (o : Option X) (x y : X) → o ≡ Some x → o ≡ Some y → x ≡ y
same_some o x y first second = grind (arith, first, second)

pub none_some : {X : Type 0} {Y : Type 0} (o : Option X) (x : X) → o ≡ None → o ≡ Some x → Y
none_some o x none some = absurd (grind (arith, none, some))

-- an element stands at a place
pub stands_somewhere : {X : Type 0} (xs : List X) (x : X) → Contains xs x → (k : ℕ) × (k < length xs) × (slice_get xs k ≡ Some x)
stands_somewhere xs x there = (there.0, there.1, slice_get_read xs (length xs) there.0 x refl there.1 (sym there.2))

-- a place is filled by what the list contains
pub stands_there : {X : Type 0} (xs : List X) (k : ℕ) (x : X) → slice_get xs k ≡ Some x → Contains xs x
stands_there xs k x is = (k, slice_get_within xs k x is, get_or_from_slice_get xs k x x is)

pub some_there : {X : Type 0} (xs : List X) (k : ℕ) → k < length xs → (x : X) × (slice_get xs k ≡ Some x)
some_there [] k within = absurd (omega (arith, within))
some_there (x ∷ xs) zero within = (x, refl)
some_there (x ∷ xs) (suc k) within = some_there xs k (omega (arith, within))

pub below_or_last : (n upto : ℕ) → n < upto + 1 → (n < upto) ⊎ (n ≡ upto)
below_or_last n upto less = elim (cases_lt n upto) [
  | inl lower ↦ inl lower
  | inr upper ↦ inr (omega (arith, less, upper))
]

pub le_or_lt : (m n : ℕ) → (m ≤ n) ⊎ (n < m)
le_or_lt m n = elim (cases_lt n m) [
  | inl lower ↦ inr lower
  | inr upper ↦ inl upper
]

-- what stands in a list with one element more stood there, or is that one
pub in_push : {X : Type 0} (xs : List X) (x : X) (k : ℕ) (y : X) → slice_get (xs ++ x ∷ []) k ≡ Some y → ((k < length xs) × (slice_get xs k ≡ Some y)) ⊎
    ((k ≡ length xs) × (y ≡ x))
in_push xs x k y at_k = elim (below_or_last k (length xs) (subst (λ n. k < n) (length_push xs x) (slice_get_within (xs ++ x ∷ []) k y at_k))) [
  | inl lower ↦ inl (lower, sym (get_front xs (x ∷ []) k lower) ∙ at_k)
  | inr last ↦ inr (last, same_some (slice_get (xs ++ x ∷ []) (length xs)) y x (subst (λ n. slice_get (xs ++ x ∷ []) n ≡ Some y) last at_k) (get_last xs x))
]

-- what stood somewhere stands there in a list with more elements
pub kept_in : {X : Type 0} (xs ys : List X) (k : ℕ) (x : X) → slice_get xs k ≡ Some x → slice_get (xs ++ ys) k ≡ Some x
kept_in xs ys k x is = get_front xs ys k (slice_get_within xs k x is) ∙ is

-- one element more, which stood nowhere, leaves all apart
pub apart_push : {X : Type 0} (xs : List X) (x : X) → ((k : ℕ) → slice_get xs k ≡ Some x → ⊥) → AreApart xs → AreApart (xs ++ x ∷ [])
apart_push xs x new apart i k y at_i at_k = elim (in_push xs x i y at_i) [
  | inl i_in ↦ elim (in_push xs x k y at_k) [
    | inl k_in ↦ apart i k y i_in.1 k_in.1
    | inr k_last ↦ absurd (new i (subst (λ z. slice_get xs i ≡ Some z) k_last.1 i_in.1))
  ]
  | inr i_last ↦ elim (in_push xs x k y at_k) [
    | inl k_in ↦ absurd (new k (subst (λ z. slice_get xs k ≡ Some z) i_last.1 k_in.1))
    | inr k_last ↦ i_last.0 ∙ sym k_last.0
  ]
]
