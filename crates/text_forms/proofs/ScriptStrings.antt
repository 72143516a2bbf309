-- Strings byte by byte, and a text line by line.
use Rattle.std.proofs.Common.{◌≡◌, ℕ, Bool, true, false, cond, eqb, List, [], ◌∷◌, ◌++◌, Option, Some, None, refl, ap, ◌∙◌, append_assoc}
use Rattle.std.specs.List.{flat_map}
use Rattle.text_forms.specs.Scripts.{going, inside, paired, itself, escaped, text_of}
use Rattle.text_forms.specs.Proved.Scripts.{with_rest, first_inside, first_paired}
use Rattle.script_text.specs.ReadingNumbers.{hex_digit}

-- what all makes of the bytes after a first one, or nothing
abbrev pub from_one : (List ℕ → List ℕ × List ℕ) → Option (ℕ × List ℕ) → List ℕ → List ℕ × List ℕ
from_one all None bytes = ([], bytes)
from_one all (Some x) bytes = (x.0 ∷ (all x.1).0, (all x.1).1)

same_one : (all : List ℕ → List ℕ × List ℕ) (o : Option ℕ) (cs bytes : List ℕ) → going o (all cs) bytes ≡ from_one all (with_rest o cs) bytes
same_one all None cs bytes = refl
same_one all (Some byte) cs bytes = refl

either : (b : Bool) (x y : Option ℕ) (cs ds bytes : List ℕ)
    → cond b (going x (inside cs) bytes) (going y (inside ds) bytes) ≡ from_one inside (cond b (with_rest x cs) (with_rest y ds)) bytes
either true x y cs ds bytes = same_one inside x cs bytes
either false x y cs ds bytes = same_one inside y ds bytes

-- a string is its first byte, and then the others
inside_first : (bytes : List ℕ) → inside bytes ≡ from_one inside (first_inside bytes) bytes
inside_first [] = refl
inside_first (c ∷ []) = same_one inside (itself c) [] (c ∷ [])
inside_first (c ∷ d ∷ cs) = either (eqb c 92) (escaped d) (itself c) cs (d ∷ cs) (c ∷ d ∷ cs)

pub inside_is : (bytes : List ℕ) (x : ℕ × List ℕ) → first_inside bytes ≡ Some x → inside bytes ≡ (x.0 ∷ (inside x.1).0, (inside x.1).1)
inside_is bytes x h = inside_first bytes ∙ ap (λ (o : Option (ℕ × List ℕ)). from_one inside o bytes) h

-- the same of pairs of digits
paired_first : (bytes : List ℕ) → paired bytes ≡ from_one paired (first_paired bytes) bytes
paired_first [] = refl
paired_first (c ∷ []) = refl
paired_first (c ∷ d ∷ cs) = same_one paired (text_of (hex_digit c) (hex_digit d)) cs (c ∷ d ∷ cs)

pub paired_is : (bytes : List ℕ) (x : ℕ × List ℕ) → first_paired bytes ≡ Some x → paired bytes ≡ (x.0 ∷ (paired x.1).0, (paired x.1).1)
paired_is bytes x h = paired_first bytes ∙ ap (λ (o : Option (ℕ × List ℕ)). from_one paired o bytes) h

-- one byte more is written
pub byte_on : (f : ℕ → List ℕ) (old new bytes rest total : List ℕ) (byte : ℕ) → bytes ≡ byte ∷ rest → new ≡ old ++ f byte
    → old ++ flat_map f bytes ≡ total → new ++ flat_map f rest ≡ total
byte_on f old new bytes rest total byte is put so_far = rw (put, ← so_far, is) (append_assoc old (f byte) (flat_map f rest))
