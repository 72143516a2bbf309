-- How two names compare, read byte by byte.
use Rattle.std.proofs.Common.{◌≡◌, ◌∙◌, ℕ, zero, suc, ◌<◌, Bool, true, false, List, [], ◌∷◌, length, get_or, drop, refl, arith, inl, inr}
use Rattle.std.specs.Prelude.{nat_lt, min}
use Rattle.std.proofs.lemmas.Bool.{cases_order}
use Rattle.std.proofs.lemmas.Bool.Decides.{nat_tests}
use Rattle.std.specs.Ordering.{nat_cmp, is_gt}
use Rattle.std.specs.Cmp.{nat_cmp_is}
use Rattle.std.specs.Cmp.Lexicographic.{slice_cmp}
use Rattle.std.specs.declared.cmp.Ordering.TheVariants.{Less, Equal, Greater}

-- how the names compare from this byte on
abbrev pub from : List ℕ → List ℕ → ℕ → Bool
from xs ys i = is_gt (slice_cmp nat_cmp (drop i xs) (drop i ys))

-- a byte that differs decides
pub decided : (xs ys : List ℕ) (i : ℕ) → i < length xs → i < length ys → (get_or xs i 0 ≡ get_or ys i 0 → ⊥) →
    nat_lt (get_or ys i 0) (get_or xs i 0) ≡ from xs ys i
decided [] ys i a b apart = absurd (omega arith)
decided (x ∷ xs) [] i a b apart = absurd (omega arith)
decided (x ∷ xs) (y ∷ ys) zero a b apart = elim (cases_order x y) [
  | inl same ↦ absurd (apart same)
  | inr other ↦ elim other [
    | inl less ↦ let is : Less ≡ nat_cmp x y = nat_cmp_is x y Less less in let no : nat_lt y x ≡ false = grind (arith, nat_tests) in rw (← is) no
    | inr more ↦ let is : Greater ≡ nat_cmp x y = nat_cmp_is x y Greater more in let yes : nat_lt y x ≡ true = grind (arith, nat_tests) in rw (← is) yes
  ]
]
decided (x ∷ xs) (y ∷ ys) (suc i) a b apart = decided xs ys i (omega arith) (omega arith) apart

-- one that does not leaves it to the next
pub passed : (xs ys : List ℕ) (i : ℕ) → i < length xs → i < length ys → get_or xs i 0 ≡ get_or ys i 0 → from xs ys (suc i) ≡ from xs ys i
passed [] ys i a b same = absurd (omega arith)
passed (x ∷ xs) [] i a b same = absurd (omega arith)
passed (x ∷ xs) (y ∷ ys) zero a b same = let is : Equal ≡ nat_cmp x y = nat_cmp_is x y Equal same in rw (← is) refl
passed (x ∷ xs) (y ∷ ys) (suc i) a b same = passed xs ys i (omega arith) (omega arith) same

same_lengths : (m n : ℕ) → nat_lt (suc n) (suc m) ≡ nat_lt n m
same_lengths m n = grind (arith, nat_tests)

-- and after the last the lengths do
pub ended : (xs ys : List ℕ) (i : ℕ) → i ≡ min (length xs) (length ys) → nat_lt (length ys) (length xs) ≡ from xs ys i
ended [] [] zero end = refl
ended [] [] (suc i) end = absurd (omega arith)
ended [] (y ∷ ys) zero end = grind (arith, nat_tests)
ended [] (y ∷ ys) (suc i) end = absurd (omega arith)
ended (x ∷ xs) [] zero end = grind (arith, nat_tests)
ended (x ∷ xs) [] (suc i) end = absurd (omega arith)
ended (x ∷ xs) (y ∷ ys) zero end = absurd (omega arith)
ended (x ∷ xs) (y ∷ ys) (suc i) end = same_lengths (length xs) (length ys) ∙ ended xs ys i (omega arith)
