-- A sweep, slot by slot.
use Rattle.std.proofs.Common.{◌≡◌, ℕ, zero, suc, ◌+◌, Bool, ◌||◌, cond, List, [], ◌∷◌, ◌++◌, Option, None, length, set, get_or, take, drop, map, refl, ap, arith, ltb}
use Rattle.std.specs.List.{list_any, sum_by}
use Rattle.std.proofs.lemmas.List.Sums.{sum_by-cons}
use Rattle.std.proofs.lemmas.Bool.Decides.{nat_tests}
use Rattle.slots.specs.Slots.{kept, kept_from}

-- a sum of two is above zero where one of them is
pub any_of_both : (a b : ℕ) → (ltb 0 a || ltb 0 b) ≡ ltb 0 (a + b)
any_of_both a b = grind (arith, nat_tests)

-- a sum is above zero where one of its terms is
pub any_of_sum : {X : Type 0} (f : X → ℕ) (xs : List X) → list_any (λ x. ltb 0 (f x)) xs ≡ ltb 0 (sum_by f xs)
any_of_sum f [] = refl
any_of_sum f (x ∷ xs) = rw (sum_by-cons f x xs, any_of_sum f xs) (any_of_both (f x) (sum_by f xs))

-- the slots so far are swept, and the others are as they were
abbrev pub kept_below : {T : Type 0} → (ℕ → Bool) → ℕ → ℕ → List (Option T) → List (Option T)
kept_below keeps m n xs = take n (kept_from keeps m xs) ++ drop n xs

kept_below_more : {T : Type 0} (keeps : ℕ → Bool) (m n : ℕ) (xs : List (Option T)) →
    set (kept_below keeps m n xs) n (cond (keeps (m + n)) (get_or (kept_below keeps m n xs) n None) None) ≡ kept_below keeps m (suc n) xs
kept_below_more keeps m zero [] = refl
kept_below_more keeps m (suc n) [] = refl
kept_below_more keeps m zero (x ∷ xs) = let e : m + 0 ≡ m = omega arith in rw e refl
kept_below_more keeps m (suc n) (x ∷ xs) =
    let e : m + suc n ≡ suc m + n = omega arith in
    rw e (ap (λ ys. cond (keeps m) x None ∷ ys) (kept_below_more keeps (suc m) n xs))

-- one more slot is swept
pub kept_more : {T : Type 0} (keeps : ℕ → Bool) (n : ℕ) (xs ys : List (Option T)) →
    ys ≡ kept_below keeps 0 n xs →
    set ys n (cond (keeps n) (get_or ys n None) None) ≡ kept_below keeps 0 (n + 1) xs
kept_more keeps n xs ys e =
    let first : 0 + n ≡ n = omega arith in
    let next : n + 1 ≡ suc n = omega arith in
    rw (e, next) (rw first at (kept_below_more keeps 0 n xs))

kept_below_all : {T : Type 0} (keeps : ℕ → Bool) (m : ℕ) (xs : List (Option T)) → kept_below keeps m (length xs) xs ≡ kept_from keeps m xs
kept_below_all keeps m [] = refl
kept_below_all keeps m (x ∷ xs) = ap (λ ys. cond (keeps m) x None ∷ ys) (kept_below_all keeps (suc m) xs)

-- all slots are swept
pub kept_all : {T : Type 0} (keeps : ℕ → Bool) (n : ℕ) (xs : List (Option T)) → n ≡ length xs → kept_below keeps 0 n xs ≡ kept keeps xs
kept_all keeps n xs e = rw e (kept_below_all keeps 0 xs)

map_so_far : {X : Type 0} (f : X → X) (d : X) → f d ≡ d → (n : ℕ) (xs : List X) →
    set (map f (take n xs) ++ drop n xs) n (f (get_or (map f (take n xs) ++ drop n xs) n d)) ≡ map f (take (suc n) xs) ++ drop (suc n) xs
map_so_far f d e zero [] = refl
map_so_far f d e (suc n) [] = refl
map_so_far f d e zero (x ∷ xs) = refl
map_so_far f d e (suc n) (x ∷ xs) = ap (λ ys. f x ∷ ys) (map_so_far f d e n xs)

-- one more value is mapped in place
pub map_more : {X : Type 0} (f : X → X) (d : X) → f d ≡ d → (n : ℕ) (xs ys : List X) →
    ys ≡ map f (take n xs) ++ drop n xs →
    set ys n (f (get_or ys n d)) ≡ map f (take (n + 1) xs) ++ drop (n + 1) xs
map_more f d e n xs ys is =
    let next : n + 1 ≡ suc n = omega arith in
    rw (is, next) (map_so_far f d e n xs)
