use Rattle.std.proofs.Common.{◌≡◌, ◌∙◌, List, [], ◌∷◌, ℕ, length, take, drop, get_or, replicate, refl, sym, ap, subst}
use Rattle.std.specs.Cmp.Lexicographic.{same_text}
use Rattle.call_types.proofs.bounded.one_byte.Goals as goal

-- a list of which the front is what follows its first entry is that entry again and again
repeated : (x : ℕ) (l : List ℕ) → take (length l) (x ∷ l) ≡ l → x ∷ l ≡ replicate (length (x ∷ l)) x
repeated x [] h = refl
repeated x (y ∷ l) h =
    let same = ap (λ m. get_or m 0 0) h in
    let later = ap (λ m. drop 1 m) h in
    ap (λ m. x ∷ m) (subst (λ z. y ∷ l ≡ replicate (length (y ∷ l)) z) (sym same) (repeated y l later))

pub returns-then-eq : goal.returns-then-eq
returns-then-eq c =
    let is = c.in-Some.ensures.cases.0 in
    let same = same_text c.split_at.result.0.now c.in-Some.rest.now c.if-eq.ensures in
    let shifted = subst (λ m. take (length c.in-Some.rest.now) m ≡ c.in-Some.rest.now) is (sym c.split_at.ensures.front ∙ same) in
    subst (λ m. m ≡ replicate (length m) c.in-Some.first.now) (sym is) (repeated c.in-Some.first.now c.in-Some.rest.now shifted)
