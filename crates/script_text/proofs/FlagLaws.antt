-- Flags are read from their one spelling alone.
use Rattle.std.proofs.Common.{◌≡◌, ℕ, zero, suc, ◌<◌, Bool, true, false, cond, eqb, ltb, ◌&&◌, List, [], ◌∷◌, ◌++◌, length, take, drop, Option, Some, None, refl, sym, ap, subst, ◌∙◌, arith, inl, inr, bit_or}
use Rattle.std.specs.Prelude.{codes, not}
use Rattle.std.specs.List.{fold, list_all}
use Rattle.std.specs.Str.{bytes_eq}
use Rattle.std.proofs.lemmas.Bool.{eqb-true, and_parts, ltb-true}
use Rattle.std.proofs.lemmas.List.{take-append-drop}
use Rattle.std.proofs.lemmas.Slice.Eq.{bytes_eq-Decides}
use Rattle.script_text.specs.ReadingFlags.{Suffix, suffixes, with_suffix, whole, after_mode, after_r, flags_of}
use Rattle.script_text.specs.Lines.{flags_word}
use Rattle.script_text.proofs.Numerals.{chosen, each_below}
use Rattle.script_text.proofs.WordLaws.{Unbroken, unbroken}

whole_takes : (bits n : ℕ) (cs : List ℕ) → whole bits cs ≡ Some n → (cs ≡ []) × (bits ≡ n)
whole_takes bits n [] e = (refl, cc)
whole_takes bits n (c ∷ cs) e = absurd cc

-- the texts of the suffixes that are chosen
abbrev texts : List Bool → List Suffix → List ℕ
texts [] ss = []
texts (b ∷ bs) [] = []
texts (b ∷ bs) (s ∷ ss) = cond b s.text [] ++ texts bs ss

-- a mode's bits, and those of the suffixes that are chosen
abbrev bits_with : List Bool → ℕ → List Suffix → ℕ
bits_with [] mode ss = mode
bits_with (b ∷ bs) mode [] = mode
bits_with (b ∷ bs) mode (s ∷ ss) = bits_with bs (cond b (bit_or mode s.bit) mode) ss

-- what stands after a mode is a choice of the suffixes
record Ends (mode n : ℕ) (cs : List ℕ) (ss : List Suffix) : Type 0 where
  pub choice : List Bool
  pub many : length choice ≡ length ss
  pub text : cs ≡ texts choice ss
  pub bits : n ≡ bits_with choice mode ss

-- the bits after all suffixes, if nothing is left
abbrev read_all : ℕ × List ℕ → List Suffix → Option ℕ
read_all x ss = whole (fold with_suffix x ss).0 (fold with_suffix x ss).1

by_test : (b : Bool) (s : Suffix) (ss : List Suffix) (mode n : ℕ) (cs : List ℕ) → bytes_eq (take (length s.text) cs) s.text ≡ b
    → ((mode : ℕ) (cs : List ℕ) → read_all (mode, cs) ss ≡ Some n → Ends mode n cs ss)
    → read_all (cond b (bit_or mode s.bit, drop (length s.text) cs) (mode, cs)) ss ≡ Some n → Ends mode n cs (s ∷ ss)
by_test true s ss mode n cs t rest e =
    let r = rest (bit_or mode s.bit) (drop (length s.text) cs) e in
    let front : take (length s.text) cs ≡ s.text = (bytes_eq-Decides (take (length s.text) cs) s.text).0 t in
    let both : cs ≡ s.text ++ texts r.choice ss =
    sym (take-append-drop (length s.text) cs) ∙ ap (λ (f : List ℕ). f ++ drop (length s.text) cs) front ∙ ap (λ (d : List ℕ). s.text ++ d) r.text in
    record { choice = true ∷ r.choice; many = ap (λ (n : ℕ). suc n) r.many; text = both; bits = r.bits }
by_test false s ss mode n cs t rest e =
    let r = rest mode cs e in
    record { choice = false ∷ r.choice; many = ap (λ (n : ℕ). suc n) r.many; text = r.text; bits = r.bits }

ends : (ss : List Suffix) (mode n : ℕ) (cs : List ℕ) → read_all (mode, cs) ss ≡ Some n → Ends mode n cs ss
ends [] mode n cs e =
    let w = whole_takes mode n cs e in
    record { choice = []; many = refl; text = w.0; bits = sym w.1 }
ends (s ∷ ss) mode n cs e = by_test (bytes_eq (take (length s.text) cs) s.text) s ss mode n cs refl (λ mode cs h. ends ss mode n cs h) e

-- a test of all lists of so many choices
abbrev all_choices : ℕ → (List Bool → Bool) → Bool
all_choices zero p = p []
all_choices (suc k) p = all_choices k (λ bs. p (true ∷ bs)) && all_choices k (λ bs. p (false ∷ bs))

each_choice : (k : ℕ) (p : List Bool → Bool) (bs : List Bool) → all_choices k p ≡ true → length bs ≡ k → p bs ≡ true
each_choice zero p [] h len = h
each_choice zero p (b ∷ bs) h len = absurd (omega arith)
each_choice (suc k) p [] h len = absurd (omega arith)
each_choice (suc k) p (true ∷ bs) h len =
    each_choice k (λ bs. p (true ∷ bs)) bs (and_parts (all_choices k (λ bs. p (true ∷ bs))) (all_choices k (λ bs. p (false ∷ bs))) h).0 (omega arith)
each_choice (suc k) p (false ∷ bs) h len =
    each_choice k (λ bs. p (false ∷ bs)) bs (and_parts (all_choices k (λ bs. p (true ∷ bs))) (all_choices k (λ bs. p (false ∷ bs))) h).1 (omega arith)

-- whether a mode's letters and the chosen suffixes are the word of their bits, which a script may have
abbrev is_word : List ℕ → ℕ → List Bool → Bool
is_word front mode bs = bytes_eq (front ++ texts bs suffixes) (flags_word (bits_with bs mode suffixes)) && ltb (bits_with bs mode suffixes) 128

-- the word of flags that a script may have
abbrev pub IsFlags : List ℕ → ℕ → Type 0
IsFlags word n = (word ≡ flags_word n) × (n < 128)

-- a mode's letters before its end
with_end : (front : List ℕ) (mode n : ℕ) (cs : List ℕ) → all_choices (length suffixes) (is_word front mode) ≡ true → after_mode mode cs ≡ Some n →
    IsFlags (front ++ cs) n
with_end front mode n cs all e =
    let end = ends suffixes mode n cs e in
    let bits : ℕ = bits_with end.choice mode suffixes in
    let parts = and_parts (bytes_eq (front ++ texts end.choice suffixes) (flags_word bits)) (ltb bits 128)
    (each_choice (length suffixes) (is_word front mode) end.choice all end.many) in
    let spelled : front ++ texts end.choice suffixes ≡ flags_word bits = (bytes_eq-Decides (front ++ texts end.choice suffixes) (flags_word bits)).0 parts.0 in
    (ap (λ (t : List ℕ). front ++ t) end.text ∙ spelled ∙ ap flags_word (sym end.bits), subst (λ (m : ℕ). m < 128) (sym end.bits) (ltb-true bits 128 parts.1))

r_takes : (n : ℕ) (cs : List ℕ) → after_r cs ≡ Some n → IsFlags (114 ∷ cs) n
r_takes n [] e = with_end (codes "r") 1 n [] refl e
r_takes n (c ∷ cs) e =
    elim (chosen (eqb c 119) (after_mode 3 cs) (after_mode 1 (c ∷ cs)) (Some n) e) [
      | inl w ↦ subst (λ (d : ℕ). IsFlags (114 ∷ d ∷ cs) n) (sym (eqb-true c 119 w.0)) (with_end (codes "rw") 3 n cs refl w.1)
      | inr other ↦ with_end (codes "r") 1 n (c ∷ cs) refl other.1
    ]

rest_takes : (c n : ℕ) (cs : List ℕ) → cond (eqb c 119) (after_mode 2 cs) (cond (eqb c 45) (after_mode 0 cs) None) ≡ Some n → IsFlags (c ∷ cs) n
rest_takes c n cs e =
    elim (chosen (eqb c 119) (after_mode 2 cs) (cond (eqb c 45) (after_mode 0 cs) None) (Some n) e) [
      | inl w ↦ subst (λ (d : ℕ). IsFlags (d ∷ cs) n) (sym (eqb-true c 119 w.0)) (with_end (codes "w") 2 n cs refl w.1)
      | inr other ↦
          elim (chosen (eqb c 45) (after_mode 0 cs) None (Some n) other.1) [
            | inl minus ↦ subst (λ (d : ℕ). IsFlags (d ∷ cs) n) (sym (eqb-true c 45 minus.0)) (with_end (codes "-") 0 n cs refl minus.1)
            | inr none ↦ absurd (let f = none.1 in cc)
          ]
    ]

pub flags_takes : (word : List ℕ) (n : ℕ) → flags_of word ≡ Some n → IsFlags word n
flags_takes [] n e = absurd cc
flags_takes (c ∷ cs) n e =
    elim (chosen (eqb c 114) (after_r cs) (cond (eqb c 119) (after_mode 2 cs) (cond (eqb c 45) (after_mode 0 cs) None)) (Some n) e) [
      | inl r ↦ subst (λ (d : ℕ). IsFlags (d ∷ cs) n) (sym (eqb-true c 114 r.0)) (r_takes n cs r.1)
      | inr other ↦ rest_takes c n cs other.1
    ]

-- whether these flags were read
abbrev is_read : ℕ → Option ℕ → Bool
is_read n None = false
is_read n (Some m) = eqb m n

-- whether flags are read again from their word, which has no space
abbrev is_fine : ℕ → Bool
is_fine n = is_read n (flags_of (flags_word n)) && list_all (λ c. not (eqb c 32)) (flags_word n)

read_takes : (n : ℕ) (o : Option ℕ) → is_read n o ≡ true → o ≡ Some n
read_takes n None e = absurd cc
read_takes n (Some m) e = ap (λ (k : ℕ). Some k) (eqb-true m n e)

fine : (n : ℕ) → n < 128 → (is_read n (flags_of (flags_word n)) ≡ true) × (list_all (λ c. not (eqb c 32)) (flags_word n) ≡ true)
fine n lt = and_parts (is_read n (flags_of (flags_word n))) (list_all (λ c. not (eqb c 32)) (flags_word n)) (each_below 128 n is_fine refl lt)

pub flags_again : (n : ℕ) → n < 128 → flags_of (flags_word n) ≡ Some n
flags_again n lt = read_takes n (flags_of (flags_word n)) (fine n lt).0

pub flags_unbroken : (n : ℕ) → n < 128 → Unbroken (flags_word n)
flags_unbroken n lt = unbroken (flags_word n) (fine n lt).1
