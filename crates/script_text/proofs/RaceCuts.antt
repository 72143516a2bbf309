-- A line of a race, cut where an answer is asked for.
use Rattle.std.proofs.Common.{◌≡◌, ℕ, zero, suc, ◌+◌, ◌-◌, true, false, List, [], ◌∷◌, ◌++◌, length, take, drop, Some, None, refl, ap, subst, ◌∙◌, arith}
use Rattle.std.proofs.lemmas.List.{append-nil, take_all, length-drop}
use Rattle.script_text.specs.Reading.{Unread, onto}
use Rattle.script_text.specs.Races.{opens_answer, cut_answer}

-- the same cut, with these bytes in front
abbrev pub in_front : List ℕ → List ℕ × Unread → List ℕ × Unread
in_front xs parts = (xs ++ parts.0, parts.1)

-- where no answer is asked for, the cut is further on
further : (start : ℕ) (line : List ℕ) → opens_answer (drop start line) ≡ false
    → in_front (take (suc start) line) (cut_answer (drop (suc start) line)) ≡ in_front (take start line) (cut_answer (drop start line))
further zero [] e = refl
further (suc n) [] e = refl
further zero (c ∷ cs) e = rw e refl
further (suc n) (c ∷ cs) e = ap (onto c) (further n cs e)

further_on : (start : ℕ) (line : List ℕ) → opens_answer (drop start line) ≡ false
    → in_front (take (start + 1) line) (cut_answer (drop (start + 1) line)) ≡ in_front (take start line) (cut_answer (drop start line))
further_on start line e =
    let is : suc start ≡ start + 1 = omega arith in
    subst (λ (k : ℕ). in_front (take k line) (cut_answer (drop k line)) ≡ in_front (take start line) (cut_answer (drop start line))) is (further start line e)

whole_rest : (start : ℕ) (line : List ℕ) → take (length line - start) (drop start line) ≡ drop start line
whole_rest start line = take_all (length line - start) (drop start line) (omega (arith, length-drop start line))

-- the same, where what is left is cut out of the line
pub further_at : (start : ℕ) (line : List ℕ) → opens_answer (take (length line - start) (drop start line)) ≡ false
    → in_front (take (start + 1) line) (cut_answer (drop (start + 1) line)) ≡ in_front (take start line) (cut_answer (drop start line))
further_at start line e = further_on start line (subst (λ (text : List ℕ). opens_answer text ≡ false) (whole_rest start line) e)

opened : (text : List ℕ) → opens_answer text ≡ true → cut_answer text ≡ ([], Some (drop 3 text))
opened [] e = absurd cc
opened (c ∷ cs) e = rw e refl

-- where one is asked for, the cut is here
pub found : (start : ℕ) (line : List ℕ) → opens_answer (drop start line) ≡ true → in_front (take start line) (cut_answer (drop start line)) ≡
    (take start line, Some (drop 3 (drop start line)))
found start line e = ap (in_front (take start line)) (opened (drop start line) e) ∙ ap (λ (xs : List ℕ). (xs, Some (drop 3 (drop start line))))
    (append-nil (take start line))

-- nothing is asked for up to the end
pub ends : (line : List ℕ) → in_front (take (length line) line) (cut_answer (drop (length line) line)) ≡ (line, None)
ends [] = refl
ends (c ∷ cs) = ap (onto c) (ends cs)
