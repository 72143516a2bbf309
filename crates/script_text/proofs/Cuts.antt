-- Where bytes are cut, by the index of the first that is a mark.
use Rattle.std.proofs.Common.{◌≡◌, ℕ, zero, suc, ◌<◌, Bool, true, false, eqb, List, [], ◌∷◌, length, get_or, take, drop, Option, Some, None, refl, ap, arith, ltb}
use Rattle.std.specs.List.{position, position_or_len}
use Rattle.std.proofs.lemmas.Bool.{ltb-false}
use Rattle.std.proofs.lemmas.List.Quantifiers.{position-Some}
use Rattle.std.proofs.lemmas.List.Sums.{fails_before_first}
use Rattle.script_text.specs.Reading.{cut, onto}
use Rattle.memchr.specs.Find.{IsFirstByte, Nowhere, Passes, is_byte}

-- the mark stands at no index below i
abbrev pub NoMark : ℕ → ℕ → List ℕ → Type 0
NoMark mark i bytes = Nowhere (Passes (is_byte mark) bytes) 0 i

no_head : (b : Bool) → (b ≡ true → ⊥) → b ≡ false
no_head true h = absurd (h refl)
no_head false h = refl

further : (mark i c : ℕ) (cs : List ℕ) → NoMark mark (suc i) (c ∷ cs) → NoMark mark i cs
further mark i c cs h k low lt e = h (suc k) (omega arith) (omega arith) e

pub cut_at : (mark : ℕ) (bytes : List ℕ) (i : ℕ) → NoMark mark i bytes → i < length bytes → Passes (is_byte mark) bytes i →
    cut mark bytes ≡ (take i bytes, Some (drop (suc i) bytes))
cut_at mark [] i h lt e = absurd (omega arith)
cut_at mark (c ∷ cs) zero h lt e = rw e refl
cut_at mark (c ∷ cs) (suc i) h lt e =
    rw (no_head (eqb c mark) (h 0 (omega arith) (omega arith))) (ap (onto c) (cut_at mark cs i (further mark i c cs h) (omega arith) e))

pub cut_none : (mark : ℕ) (bytes : List ℕ) → NoMark mark (length bytes) bytes → cut mark bytes ≡ (bytes, None)
cut_none mark [] h = refl
cut_none mark (c ∷ cs) h =
    rw (no_head (eqb c mark) (h 0 (omega arith) (omega arith))) (ap (onto c) (cut_none mark cs (further mark (length cs) c cs h)))

-- what a search byte by byte finds is the first index of the mark
pub first_index : (mark : ℕ) (bytes : List ℕ) (found : Option ℕ) → position (is_byte mark) bytes ≡ found → IsFirstByte (is_byte mark) bytes found
first_index mark bytes None is = λ k low lt here. let e = none_there k lt in cc
  where
    passed : (k : ℕ) → k < length bytes → (b : Bool) → ltb (position_or_len (is_byte mark) bytes) (length bytes) ≡ b → k < position_or_len (is_byte mark) bytes
    passed k lt true t = let bad : Some (position_or_len (is_byte mark) bytes) ≡ None = rw t at is in cc
    passed k lt false t = let le = ltb-false (position_or_len (is_byte mark) bytes) (length bytes) t in omega (arith, le, lt)

    none_there : (k : ℕ) → k < length bytes → is_byte mark (get_or bytes k 0) ≡ false
    none_there k lt = fails_before_first (is_byte mark) bytes k 0 (passed k lt (ltb (position_or_len (is_byte mark) bytes) (length bytes)) refl)
first_index mark bytes (Some i) is =
    let at = position-Some (is_byte mark) bytes i 0 is in
    (record { low = omega arith; high = at.0; before = λ k low lt here. let e = at.2 k lt in cc }, at.1)
