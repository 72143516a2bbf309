-- First items of one list.
use Rattle.std.proofs.Common.{◌≡◌, ◌∙◌, ap, sym, ◌≤◌, List, [], ◌∷◌, ◌++◌, length, refl, arith}
use Rattle.std.proofs.lemmas.List.{append_assoc}
use Rattle.call_types.specs.declared.act.Record.{Record}
use Rattle.run_history.specs.Fronts.{Grows}
use mathlib.Core.List.{IsPrefix}

-- what begins with all of a list begins with what that begins with
pub grown : (xs ys : List Record) → IsPrefix xs ys → Grows xs ys
grown xs ys p h q = (p.0 ++ q.0, sym (append_assoc xs p.0 q.0) ∙ (ap (λ (l : List Record). l ++ q.0) p.1 ∙ q.1))

-- of two of them the shorter begins the longer
pub shorter_begins : {A : Type 0} (xs ys zs : List A) → IsPrefix xs zs → IsPrefix ys zs → length xs ≤ length ys → IsPrefix xs ys
shorter_begins [] ys zs p q le = (ys, refl)
shorter_begins (x ∷ xs) [] zs p q le = absurd (omega arith)
shorter_begins (x ∷ xs) (y ∷ ys) [] p q le = absurd (cc (p.1))
shorter_begins (x ∷ xs) (y ∷ ys) (z ∷ zs) p q le =
    let heads : x ≡ y = cc (p.1, q.1) in
    let rest = shorter_begins xs ys zs (p.0, cc (p.1)) (q.0, cc (q.1)) (omega arith) in
    (rest.0, cc (heads, rest.1))

-- those that are as many as the list has are the list
pub whole : {A : Type 0} (xs ys : List A) → IsPrefix xs ys → length ys ≤ length xs → xs ≡ ys
whole [] [] p le = refl
whole [] (y ∷ ys) p le = absurd (omega arith)
whole (x ∷ xs) [] p le = absurd (cc (p.1))
whole (x ∷ xs) (y ∷ ys) p le =
    let rest = whole xs ys (p.0, cc (p.1)) (omega arith) in cc (p.1, rest)
