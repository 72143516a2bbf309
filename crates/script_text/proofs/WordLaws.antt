-- Words that are numbers are read from their one spelling alone; a word ends at the first space.
use Rattle.std.proofs.Common.{◌≡◌, ℕ, zero, suc, ◌+◌, ◌-◌, ◌^◌, ◌<◌, ◌≤◌, Bool, true, false, cond, eqb, leb, List, [], ◌∷◌, ◌++◌, length, Option, Some, None, Result, Ok, Err, refl, sym, ap, subst, ◌∙◌, arith, inl, inr, ℤ, pos, FitsSigned, w32, w64}
use Rattle.std.specs.Prelude.{negsuc, not}
use Rattle.std.specs.List.{list_all}
use Rattle.std.proofs.lemmas.Bool.{eqb-true, eq-eqb, ne_eqb, and_parts, leb-true, cond-false, not-true}
use Rattle.std.proofs.lemmas.Int.{ints}
use Rattle.std.specs.Char.{is_ascii_digit}
use Rattle.std.specs.Str.{all_ascii_digits}
use Rattle.std.specs.Fmt.{decimal, signed_decimal}
use Rattle.std.proofs.lemmas.Fmt.{digits_decimal, decimal_nonempty}
use Rattle.script_text.specs.declared.fault.Expected.{Expected}
use Rattle.script_text.specs.Reading.{◌>>=◌, Unread, cut, onto, valued, field, ended}
use Rattle.script_text.specs.ReadingNumbers.{number_of, process_of, signed_of, negative, not_negative}
use Rattle.script_text.specs.Lines.{process_word}
use Rattle.script_text.proofs.Numerals.{own, number_takes, number_again, chosen}

-- no space stands in a word
abbrev pub Unbroken : List ℕ → Type 0
Unbroken [] = Unit {0}
Unbroken (c ∷ cs) = (c ≡ 32 → ⊥) × Unbroken cs

no_space : (c : ℕ) (b : Bool) → eqb c 32 ≡ b → b ≡ false → c ≡ 32 → ⊥
no_space c b e f h = absurd (let t = sym (eq-eqb c 32 h) ∙ e ∙ f in cc)

-- the same as a test
pub unbroken : (word : List ℕ) → list_all (λ c. not (eqb c 32)) word ≡ true → Unbroken word
unbroken [] h = tt
unbroken (c ∷ cs) h =
    let parts = and_parts (not (eqb c 32)) (list_all (λ c. not (eqb c 32)) cs) h in
    (no_space c (eqb c 32) refl (not-true (eqb c 32) parts.0), unbroken cs parts.1)

digits_unbroken : (ds : List ℕ) → all_ascii_digits ds ≡ true → Unbroken ds
digits_unbroken [] h = tt
digits_unbroken (c ∷ cs) h =
    let parts = and_parts (is_ascii_digit c) (all_ascii_digits cs) h in
    let low = and_parts (leb 48 c) (leb c 57) parts.0 in
    (λ e. omega (arith, leb-true 48 c low.0), digits_unbroken cs parts.1)

pub decimal_unbroken : (n : ℕ) → n < 2 ^ 64 → Unbroken (decimal n)
decimal_unbroken n h = digits_unbroken (decimal n) (digits_decimal own n h)

-- what is left, with the space before it
abbrev pub tail : Unread → List ℕ
tail None = []
tail (Some bytes) = 32 ∷ bytes

cut_parts : (b : Bool) (c : ℕ) (cs : List ℕ) → eqb c 32 ≡ b → cs ≡ (cut 32 cs).0 ++ tail (cut 32 cs).1
    → (c ∷ cs) ≡ (let parts : List ℕ × Unread = cond b ([], Some cs) (onto c (cut 32 cs)) in parts.0 ++ tail parts.1)
cut_parts true c cs e h = ap (λ (d : ℕ). d ∷ cs) (eqb-true c 32 e)
cut_parts false c cs e h = ap (λ (ds : List ℕ). c ∷ ds) h

-- the parts, with the space between them, are the whole
pub cut_joined : (bytes : List ℕ) → bytes ≡ (cut 32 bytes).0 ++ tail (cut 32 bytes).1
cut_joined [] = refl
cut_joined (c ∷ cs) = cut_parts (eqb c 32) c cs refl (cut_joined cs)

-- a word without a space is cut off
pub cut_again : (word : List ℕ) (after : Unread) → Unbroken word → cut 32 (word ++ tail after) ≡ (word, after)
cut_again [] None h = refl
cut_again [] (Some bytes) h = refl
cut_again (c ∷ cs) after h = rw (ne_eqb c 32 h.0) (ap (onto c) (cut_again cs after h.1))

-- a word that has a value, and what is left after it
pub record Field {A : Type 0} (value : List ℕ → Option A) (left : Unread) (a : A) (after : Unread) : Type 0 where
  pub word : List ℕ
  pub is : left ≡ Some (word ++ tail after)
  pub has : value word ≡ Some a

pub valued_parts : {A : Type 0} (expected : Expected) (o : Option A) (remaining : ℕ) (after rest : Unread) (a : A) →
    valued expected o remaining after ≡ Ok (a, rest) → (o ≡ Some a) × (after ≡ rest)
valued_parts expected None remaining after rest a e = absurd cc
valued_parts {A} expected (Some b) remaining after rest a e =
    let both : (b, after) ≡ (a, rest) = cc in
    (ap (λ (p : A × Unread). Some p.0) both, ap (λ (p : A × Unread). p.1) both)

pub field_takes : {A : Type 0} (expected : Expected) (value : List ℕ → Option A) (left : Unread) (a : A) (after : Unread) →
    field expected value left ≡ Ok (a, after) → Field value left a after
field_takes expected value None a after e = absurd cc
field_takes expected value (Some bytes) a after e =
    let parts = valued_parts expected (value (cut 32 bytes).0) (length bytes) (cut 32 bytes).1 after a e in
    record {
      word = (cut 32 bytes).0;
      is = ap (λ (b : List ℕ). Some b) (cut_joined bytes ∙ ap (λ (l : Unread). (cut 32 bytes).0 ++ tail l) parts.1);
      has =
          parts.0;
    }

pub field_again : {A : Type 0} (expected : Expected) (value : List ℕ → Option A) (word : List ℕ) (a : A) (after : Unread) → Unbroken word →
    value word ≡ Some a → field expected value (Some (word ++ tail after)) ≡ Ok (a, after)
field_again expected value word a after h e =
    rw (cut_again word after h, e) refl

-- a value that was read
abbrev pub done : {A : Type 0} → (E : Type 0) → A → Result A E
done E x = Ok x

pub ok_is : {A E : Type 0} (x y : A) → done E x ≡ done E y → x ≡ y
ok_is x y e = cc

-- the value of a step that did not fail
pub bind_ok : {A B E : Type 0} (r : Result A E) (f : A → Result B E) (y : B) → (r >>= f) ≡ Ok y → (x : A) × (r ≡ Ok x) × (f x ≡ Ok y)
bind_ok (Ok x) f y e = (x, refl, e)
bind_ok (Err d) f y e = absurd cc

pub ended_takes : (left : Unread) (u : Unit {0}) → ended left ≡ Ok u → left ≡ None
ended_takes None u e = refl
ended_takes (Some bytes) u e = absurd cc

-- ---- processes, and numbers that may be negative

pub process_takes : (word : List ℕ) (p : ℕ) → process_of word ≡ Some p → (word ≡ process_word p) × (p < 2 ^ 32)
process_takes [] p e = absurd cc
process_takes (c ∷ cs) p e =
    elim (chosen (eqb c 112) (number_of (2 ^ 32 - 1) cs) None (Some p) e) [
      | inl is ↦
          let n = number_takes (2 ^ 32 - 1) p cs (omega arith) is.1 in
          (ap (λ (d : ℕ). d ∷ cs) (eqb-true c 112 is.0) ∙ ap (λ (ds : List ℕ). 112 ∷ ds) n.0, omega (arith, n.1))
      | inr other ↦ absurd (let f = other.1 in cc)
    ]

pub process_again : (p : ℕ) → p < 2 ^ 32 → process_of (process_word p) ≡ Some p
process_again p h = number_again (2 ^ 32 - 1) p (omega arith) (omega arith)

pub process_unbroken : (p : ℕ) → p < 2 ^ 32 → Unbroken (process_word p)
process_unbroken p h = (λ e. omega arith, decimal_unbroken p (omega arith))

negative_takes : (o : Option ℕ) (fd : ℤ) → negative o ≡ Some fd → (n : ℕ) × (o ≡ Some (suc n)) × (fd ≡ negsuc n)
negative_takes None fd e = absurd cc
negative_takes (Some zero) fd e = absurd cc
negative_takes (Some (suc n)) fd e = (n, refl, cc)

not_negative_takes : (o : Option ℕ) (fd : ℤ) → not_negative o ≡ Some fd → (n : ℕ) × (o ≡ Some n) × (fd ≡ pos n)
not_negative_takes None fd e = absurd cc
not_negative_takes (Some n) fd e = (n, refl, cc)

-- a number from -(most + 1) to most
abbrev pub Within : ℕ → ℤ → Type 0
Within most (pos n) = n ≤ most
Within most (negsuc n) = n ≤ most

pub signed_takes : (most : ℕ) (word : List ℕ) (z : ℤ) → most + 1 < 2 ^ 64 → signed_of most word ≡ Some z → (word ≡ signed_decimal z) × Within most z
signed_takes most [] z fits e = absurd cc
signed_takes most (c ∷ cs) z fits e =
    elim (chosen (eqb c 45) (negative (number_of (most + 1) cs)) (not_negative (number_of most (c ∷ cs))) (Some z) e) [
      | inl is ↦
          let v = negative_takes (number_of (most + 1) cs) z is.1 in
          let n = number_takes (most + 1) (suc v.0) cs fits v.1 in
          rw v.2 (ap (λ (d : ℕ). d ∷ cs) (eqb-true c 45 is.0) ∙ ap (λ (ds : List ℕ). 45 ∷ ds) n.0, omega (arith, n.1))
      | inr other ↦
          let v = not_negative_takes (number_of most (c ∷ cs)) z other.1 in
          let n = number_takes most v.0 (c ∷ cs) (omega arith) v.1 in
          rw v.2 (n.0, n.1)
    ]

not_minus : (most : ℕ) (word : List ℕ) (n : ℕ) → most + 1 < 2 ^ 64 → word ≡ decimal n → n ≤ most → signed_of most word ≡ Some (pos n)
not_minus most [] n fits e h = absurd (omega (arith, decimal_nonempty n (omega arith), ap length e))
not_minus most (c ∷ cs) n fits e h =
    let digits : all_ascii_digits (c ∷ cs) ≡ true = subst (λ (ds : List ℕ). all_ascii_digits ds ≡ true) (sym e) (digits_decimal own n (omega arith)) in
    let parts = and_parts (is_ascii_digit c) (all_ascii_digits cs) digits in
    let low = and_parts (leb 48 c) (leb c 57) parts.0 in
    let first : 48 ≤ c = leb-true 48 c low.0 in
    let read : number_of most (c ∷ cs) ≡ Some n = ap (number_of most) e ∙ number_again most n (omega arith) h in
    cond-false (eqb c 45) (negative (number_of (most + 1) cs)) (not_negative (number_of most (c ∷ cs))) (ne_eqb c 45 (λ m. omega arith)) ∙ ap not_negative read

pub signed_again : (most : ℕ) (z : ℤ) → most + 1 < 2 ^ 64 → Within most z → signed_of most (signed_decimal z) ≡ Some z
signed_again most (pos n) fits h = not_minus most (decimal n) n fits refl h
signed_again most (negsuc n) fits h = ap negative (number_again (most + 1) (suc n) fits (omega arith))

pub signed_unbroken : (most : ℕ) (z : ℤ) → most + 1 < 2 ^ 64 → Within most z → Unbroken (signed_decimal z)
signed_unbroken most (pos n) fits h = decimal_unbroken n (omega arith)
signed_unbroken most (negsuc n) fits h = (λ e. omega arith, decimal_unbroken (suc n) (omega arith))

pub fits_32 : (z : ℤ) → Within (2 ^ 31 - 1) z → FitsSigned w32 z
fits_32 (pos n) h = omega (arith, ints)
fits_32 (negsuc n) h = omega (arith, ints)

pub within_32 : (z : ℤ) → FitsSigned w32 z → Within (2 ^ 31 - 1) z
within_32 (pos n) h = omega (arith, ints)
within_32 (negsuc n) h = omega (arith, ints)

pub fits_64 : (z : ℤ) → Within (2 ^ 63 - 1) z → FitsSigned w64 z
fits_64 (pos n) h = omega (arith, ints)
fits_64 (negsuc n) h = omega (arith, ints)

pub within_64 : (z : ℤ) → FitsSigned w64 z → Within (2 ^ 63 - 1) z
within_64 (pos n) h = omega (arith, ints)
within_64 (negsuc n) h = omega (arith, ints)
