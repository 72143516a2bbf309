-- Numbers and digits: what is read is what is written.
use Rattle.std.proofs.Common.{◌≡◌, ℕ, zero, suc, ◌+◌, ◌*◌, ◌-◌, ◌/◌, ◌%◌, ◌^◌, ◌<◌, ◌≤◌, Bool, true, false, cond, eqb, leb, ◌&&◌, List, [], ◌∷◌, length, get_or, Option, Some, None, refl, sym, ap, subst, ◌∙◌, arith, inl, inr, ◌⊎◌}
use Rattle.std.proofs.lemmas.Bool.{eq-eqb, ne_eqb, leb-true, le-leb, lt-ltb, le-ltb, cases_eq, and_parts, cases_Bool, cond-true, cond-false}
use Rattle.std.proofs.lemmas.Bool.Decides.{nat_tests}
use Rattle.std.proofs.lemmas.Option.{cond_some}
use Rattle.std.proofs.lemmas.Str.Parse.{IsNumeralModel, numerals_by_fold, tells_all_ascii_digits}
use Rattle.std.proofs.lemmas.Fmt.{decimal-digits_value, digits_decimal, digits_value-decimal, decimal_digit, first_decimal, decimal_nonempty}
use Rattle.std.specs.Char.{is_ascii_digit}
use Rattle.std.specs.Str.{all_ascii_digits}
use Rattle.std.specs.Fmt.{decimal}
use Rattle.script_text.specs.Reading.{both}
use Rattle.script_text.specs.ReadingNumbers.{hex_digit, hex_byte, digits_on, number_of}
use Rattle.script_text.specs.Lines.{hex_glyph}

-- the value of digits, from the left
abbrev pub read_on : ℕ → List ℕ → ℕ
read_on n [] = n
read_on n (c ∷ cs) = read_on (n * 10 + (c - 48)) cs

pub own : IsNumeralModel (λ ds. all_ascii_digits ds ≡ true) (read_on 0)
own = numerals_by_fold _ tells_all_ascii_digits read_on (record { empty = λ n. refl; more = λ n c cs r. refl })

grows : (n : ℕ) (ds : List ℕ) → n ≤ read_on n ds
grows n [] = omega arith
grows n (c ∷ cs) = omega (arith, grows (n * 10 + (c - 48)) cs)

-- digits that are read are digits, and their value is read
pub record Reads (most n m : ℕ) (ds : List ℕ) : Type 0 where
  pub digits : all_ascii_digits ds ≡ true
  pub value : read_on n ds ≡ m
  pub small : m ≤ most

digits_takes : (most n m : ℕ) (ds : List ℕ) → n ≤ most → digits_on most n ds ≡ Some m → Reads most n m ds
digits_takes most n m [] h e = record { digits = refl; value = cc; small = let same : n ≡ m = cc in omega arith }
digits_takes most n m (c ∷ cs) h e =
    elim (cases_Bool (is_ascii_digit c && leb (n * 10 + (c - 48)) most)) [
      | inl holds ↦
          let parts = and_parts (is_ascii_digit c) (leb (n * 10 + (c - 48)) most) holds in
          let rest = digits_takes most (n * 10 + (c - 48)) m cs (leb-true _ _ parts.1) (sym (cond-true _ _ None holds) ∙ e) in
          record { digits = rw (parts.0, rest.digits) refl; value = rest.value; small = rest.small }
      | inr fails ↦ absurd (let f = sym (cond-false _ (digits_on most (n * 10 + (c - 48)) cs) None fails) ∙ e in cc)
    ]

digits_again : (most n : ℕ) (ds : List ℕ) → all_ascii_digits ds ≡ true → read_on n ds ≤ most → digits_on most n ds ≡ Some (read_on n ds)
digits_again most n [] h small = refl
digits_again most n (c ∷ cs) h small =
    let parts = and_parts (is_ascii_digit c) (all_ascii_digits cs) h in
    let fits : leb (n * 10 + (c - 48)) most ≡ true = le-leb _ _ (omega (arith, grows (n * 10 + (c - 48)) cs)) in
    rw (parts.0, fits) (digits_again most (n * 10 + (c - 48)) cs parts.1 small)

-- a number whose first digit is not 0
first_digit : (most n c : ℕ) (cs : List ℕ) → most < 2 ^ 64 → (c ≡ 48 → ⊥) → digits_on most 0 (c ∷ cs) ≡ Some n → ((c ∷ cs) ≡ decimal n) × (n ≤ most)
first_digit most n c cs fits other e =
    let r = digits_takes most 0 n (c ∷ cs) (omega arith) e in
    let spelled = decimal-digits_value own (c ∷ cs) r.digits (omega arith) (λ zero. absurd (other zero)) (rw r.value (omega (arith, r.small))) in
    (sym spelled ∙ ap decimal r.value, r.small)

-- a number is read from its one spelling alone
pub number_takes : (most n : ℕ) (word : List ℕ) → most < 2 ^ 64 → number_of most word ≡ Some n → (word ≡ decimal n) × (n ≤ most)
number_takes most n [] fits e = absurd cc
number_takes most n (c ∷ []) fits e =
    elim (cases_eq c 48) [
      | inl is ↦
          let s : cond (eqb c 48) (Some 0) (digits_on most 0 (c ∷ [])) ≡ Some 0 = rw (eq-eqb c 48 is) refl in
          let zero_is : 0 ≡ n = let f = sym s ∙ e in cc in
          rw (is, ← zero_is) (sym (decimal_digit 0 (omega arith)), omega arith)
      | inr other ↦ first_digit most n c [] fits other (sym (cond-false (eqb c 48) (Some 0) (digits_on most 0 (c ∷ [])) (ne_eqb c 48 other)) ∙ e)
    ]
number_takes most n (c ∷ d ∷ cs) fits e =
    elim (cases_eq c 48) [
      | inl is ↦ absurd (let f = sym (cond-true (eqb c 48) None (digits_on most 0 (c ∷ d ∷ cs)) (eq-eqb c 48 is)) ∙ e in cc)
      | inr other ↦ first_digit most n c (d ∷ cs) fits other (sym (cond-false (eqb c 48) None (digits_on most 0 (c ∷ d ∷ cs)) (ne_eqb c 48 other)) ∙ e)
    ]

-- and it is read from that
number_first : (most n c : ℕ) (cs : List ℕ) → (c ≡ 48 → ⊥) → digits_on most 0 (c ∷ cs) ≡ Some n → number_of most (c ∷ cs) ≡ Some n
number_first most n c cs other e = rw (ne_eqb c 48 other) e

positive : (most n : ℕ) (ds : List ℕ) → ds ≡ decimal n → 0 < n → n < 2 ^ 64 → n ≤ most → number_of most ds ≡ Some n
positive most n [] e low fits small = absurd (omega (arith, decimal_nonempty n fits, ap length e))
positive most n (c ∷ cs) e low fits small =
    let digits : all_ascii_digits (c ∷ cs) ≡ true = subst (λ (ds : List ℕ). all_ascii_digits ds ≡ true) (sym e) (digits_decimal own n fits) in
    let value : read_on 0 (c ∷ cs) ≡ n = ap (read_on 0) e ∙ digits_value-decimal own n fits in
    let first : 48 < c = subst (λ (ds : List ℕ). 48 < get_or ds 0 0) (sym e) (first_decimal n low fits) in
    let is : digits_on most 0 (c ∷ cs) ≡ Some (read_on 0 (c ∷ cs)) = digits_again most 0 (c ∷ cs) digits (omega arith) in
    number_first most n c cs (λ s. omega arith) (is ∙ ap (λ (m : ℕ). Some m) value)

pub number_again : (most n : ℕ) → most < 2 ^ 64 → n ≤ most → number_of most (decimal n) ≡ Some n
number_again most zero fits small = ap (number_of most) (decimal_digit 0 (omega arith))
number_again most (suc n) fits small = positive most (suc n) (decimal (suc n)) refl (omega arith) (omega arith) small

-- a test of all numbers below one
abbrev pub all_below : ℕ → (ℕ → Bool) → Bool
all_below zero p = true
all_below (suc k) p = p k && all_below k p

-- what passes such a test, number by number
pub each_below : (k n : ℕ) (p : ℕ → Bool) → all_below k p ≡ true → n < k → p n ≡ true
each_below zero n p h lt = absurd (omega arith)
each_below (suc k) n p h lt =
    let parts = and_parts (p k) (all_below k p) h in
    elim (cases_eq n k) [
      | inl is ↦ ap p is ∙ parts.0
      | inr other ↦ each_below k n p parts.1 (omega arith)
    ]

-- which way a test went
pub chosen : {A : Type 0} (b : Bool) (x y z : A) → cond b x y ≡ z → ((b ≡ true) × (x ≡ z)) ⊎ ((b ≡ false) × (y ≡ z))
chosen true x y z e = inl (refl, e)
chosen false x y z e = inr (refl, e)

low_digit : (c d : ℕ) → 48 ≤ c → c ≤ 57 → c - 48 ≡ d → (c ≡ hex_glyph d) × (d < 16)
low_digit c d low high e = (rw (lt-ltb d 10 (omega arith)) (omega arith), omega arith)

high_digit : (c d : ℕ) → 97 ≤ c → c ≤ 102 → c - 87 ≡ d → (c ≡ hex_glyph d) × (d < 16)
high_digit c d low high e = (rw (le-ltb d 10 (omega arith)) (omega arith), omega arith)

-- a lower case digit is one of a number below 16
digit_takes : (c d : ℕ) → hex_digit c ≡ Some d → (c ≡ hex_glyph d) × (d < 16)
digit_takes c d e =
    elim (chosen (leb 48 c && leb c 57) (Some (c - 48)) (cond (leb 97 c && leb c 102) (Some (c - 87)) None) (Some d) e) [
      | inl digit ↦
          let parts = and_parts (leb 48 c) (leb c 57) digit.0 in
          low_digit c d (leb-true _ _ parts.0) (leb-true _ _ parts.1) (let same = digit.1 in cc)
      | inr other ↦
          let letter = cond_some (leb 97 c && leb c 102) (c - 87) d other.1 in
          let parts = and_parts (leb 97 c) (leb c 102) letter.0 in
          high_digit c d (leb-true _ _ parts.0) (leb-true _ _ parts.1) letter.1
    ]

digit_again : (d : ℕ) → d < 16 → hex_digit (hex_glyph d) ≡ Some d
digit_again d h = grind (arith, nat_tests)

-- what is made of two values has both
pub both_parts : {A B C : Type 0} (f : A → B → C) (o : Option A) (p : Option B) (z : C) → both f o p ≡ Some z →
    (x : A) × (y : B) × (o ≡ Some x) × (p ≡ Some y) × (f x y ≡ z)
both_parts f None p z e = absurd cc
both_parts f (Some x) None z e = absurd cc
both_parts f (Some x) (Some y) z e = (x, y, refl, refl, cc)

-- two lower case digits are those of a byte
pub pair_takes : (c d byte : ℕ) → hex_byte c d ≡ Some byte → (c ≡ hex_glyph (byte / 16)) × (d ≡ hex_glyph (byte % 16)) × (byte < 256)
pair_takes c d byte e =
    let parts = both_parts (λ (h l : ℕ). h * 16 + l) (hex_digit c) (hex_digit d) byte e in
    let high = digit_takes c parts.0 parts.2 in
    let low = digit_takes d parts.1 parts.3 in
    let quotient : parts.0 ≡ byte / 16 = omega (arith, high.1, low.1, parts.4) in
    let rest : parts.1 ≡ byte % 16 = omega (arith, high.1, low.1, parts.4) in
    (high.0 ∙ ap hex_glyph quotient, low.0 ∙ ap hex_glyph rest, omega (arith, high.1, low.1, parts.4))

pub pair_again : (byte : ℕ) → byte < 256 → hex_byte (hex_glyph (byte / 16)) (hex_glyph (byte % 16)) ≡ Some byte
pair_again byte h =
    rw (digit_again (byte / 16) (omega arith), digit_again (byte % 16) (omega arith)) (ap (λ (n : ℕ). Some n) (omega arith))
