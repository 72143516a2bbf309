-- A number at the front of what is left of a line is the field that the next word is.
use Rattle.std.proofs.Common.{◌≡◌, to_z, w64, length, ℕ, ◌+◌, ◌*◌, ◌-◌, ◌^◌, ◌≤◌, true, false, eqb, leb, List, [], ◌∷◌, ◌++◌, Option, Some, Ok, refl, sym, ap, ◌∙◌, arith, pos}
use Rattle.std.proofs.lemmas.Bool.{ne_eqb, le-leb, leb-true, and_parts}
use Rattle.std.proofs.lemmas.Int.{to_z_pos}
use Rattle.std.specs.Char.{is_ascii_digit}
use Rattle.std.specs.Fmt.{decimal}
use Rattle.script_text.specs.declared.fault.Expected.TheVariants as expect
use Rattle.script_text.specs.Reading.{Unread, cut, space, onto, field}
use Rattle.script_text.specs.ReadingCalls.{act_of, act_at}
use Rattle.script_text.specs.ReadingNumbers.{digits_on, number_of, count_of, descriptor_of, position_of}
use Rattle.script_text.specs.Proved.Ahead.{small_most, DigitsAhead, NumberAhead, act_after}
use Rattle.script_text.proofs.Numerals.{number_takes, number_again}
use Rattle.script_text.proofs.WordLaws.{tail, cut_joined, decimal_unbroken, field_again, signed_again}

digit_is_no_space : (c : ℕ) → is_ascii_digit c ≡ true → eqb c 32 ≡ false
digit_is_no_space c h =
    let low = and_parts (leb 48 c) (leb c 57) h in
    ne_eqb c 32 (λ e. omega (arith, leb-true 48 c low.0))

-- a digit in front is not cut off
digit_cut : (c : ℕ) (cs : List ℕ) → is_ascii_digit c ≡ true → cut 32 (c ∷ cs) ≡ (c ∷ (cut 32 cs).0, (cut 32 cs).1)
digit_cut c cs h = rw (digit_is_no_space c h) refl

-- one digit further, the number is the same
pub digit_on : (n m c : ℕ) (cs : List ℕ) → is_ascii_digit c ≡ true → m ≡ n * 10 + (c - 48) → m ≤ small_most
    → digits_on small_most m (cut space cs).0 ≡ digits_on small_most n (cut space (c ∷ cs)).0
digit_on n m c cs h is small =
    let fits : leb (n * 10 + (c - 48)) small_most ≡ true = le-leb _ _ (omega (arith, is, small)) in
    sym (ap (λ (p : List ℕ × Unread). digits_on small_most n p.0) (digit_cut c cs h) ∙
    rw (h, fits) (ap (λ (k : ℕ). digits_on small_most k (cut 32 cs).0) (sym is)))

-- and so is what is left after it
pub digit_rest : (c : ℕ) (cs : List ℕ) → is_ascii_digit c ≡ true → (cut space cs).1 ≡ (cut space (c ∷ cs)).1
digit_rest c cs h = sym (ap (λ (p : List ℕ × Unread). p.1) (digit_cut c cs h))

-- a number that begins with another digit than 0
pub begins : (n m c : ℕ) (cs : List ℕ) (after : Unread) → is_ascii_digit c ≡ true → (c ≡ 48 → ⊥) → n ≡ 0 * 10 + (c - 48) → n ≤ small_most →
    DigitsAhead n cs m after → NumberAhead (c ∷ cs) m after
begins n m c cs after h other is small d =
    let first : digits_on small_most 0 (c ∷ (cut 32 cs).0) ≡ digits_on small_most n (cut 32 cs).0 =
    ap (λ (p : List ℕ × Unread). digits_on small_most 0 p.0) (sym (digit_cut c cs h)) ∙ sym (digit_on 0 n c cs h is small) in
    record {
      value = ap (λ (p : List ℕ × Unread). number_of small_most p.0) (digit_cut c cs h) ∙ rw (ne_eqb c 48 other) (first ∙ d.value);
      rest = sym (digit_rest c cs h) ∙ d.rest;
    }

-- a 0 that stands alone
pub zero_ahead : (c : ℕ) (cs : List ℕ) (after : Unread) → c ≡ 48 → cut space cs ≡ ([], after) → NumberAhead (c ∷ cs) 0 after
zero_ahead c cs after is end =
    let whole : cut 32 (c ∷ cs) ≡ (48 ∷ [], after) = rw is (ap (onto 48) end) in
    record {
      value = ap (λ (p : List ℕ × Unread). number_of small_most p.0) whole;
      rest = ap (λ (p : List ℕ × Unread). p.1) whole;
    }

-- the bytes are the number as it is written, and what is left after it
spelled : (bytes : List ℕ) (n : ℕ) (after : Unread) → NumberAhead bytes n after → (bytes ≡ decimal n ++ tail after) × (n ≤ small_most)
spelled bytes n after a =
    let number = number_takes small_most n (cut 32 bytes).0 (omega arith) a.value in
    (cut_joined bytes ∙ ap (λ (w : List ℕ). w ++ tail (cut 32 bytes).1) number.0 ∙ ap (λ (l : Unread). decimal n ++ tail l) a.rest, number.1)

pub count_ahead : (bytes : List ℕ) (n : ℕ) (after : Unread) → NumberAhead bytes n after → field expect.Count count_of (Some bytes) ≡ Ok (n, after)
count_ahead bytes n after a =
    let s = spelled bytes n after a in
    ap (λ (b : List ℕ). field expect.Count count_of (Some b)) s.0
    ∙ field_again expect.Count count_of (decimal n) n after (decimal_unbroken n (omega (arith, s.1)))
    (number_again (2 ^ 32 - 1) n (omega arith) (omega (arith, s.1)))

pub descriptor_ahead : (bytes : List ℕ) (n : ℕ) (after : Unread) → NumberAhead bytes n after → field expect.Descriptor descriptor_of (Some bytes) ≡ Ok
    (pos n, after)
descriptor_ahead bytes n after a =
    let s = spelled bytes n after a in
    ap (λ (b : List ℕ). field expect.Descriptor descriptor_of (Some b)) s.0
    ∙ field_again expect.Descriptor descriptor_of (decimal n) (pos n) after (decimal_unbroken n (omega (arith, s.1)))
    (signed_again (2 ^ 31 - 1) (pos n) (omega arith) s.1)

pub position_ahead : (bytes : List ℕ) (n : ℕ) (after : Unread) → NumberAhead bytes n after → field expect.Position position_of (Some bytes) ≡ Ok
    (to_z w64 n, after)
position_ahead bytes n after a =
    let s = spelled bytes n after a in
    rw (to_z_pos w64 n (omega (arith, s.1)))
    (ap (λ (b : List ℕ). field expect.Position position_of (Some b)) s.0
    ∙ field_again expect.Position position_of (decimal n) (pos n) after (decimal_unbroken n (omega (arith, s.1)))
    (signed_again (2 ^ 63 - 1) (pos n) (omega arith) (omega (arith, s.1))))

pub process_ahead : (c : ℕ) (bytes : List ℕ) (n : ℕ) (after : Unread) → c ≡ 112 → NumberAhead bytes n after → act_at (Some (c ∷ bytes)) ≡ act_after n after
process_ahead c bytes n after is a =
    let number = number_takes small_most n (cut 32 bytes).0 (omega arith) a.value in
    let read : count_of (cut 32 bytes).0 ≡ Some n = ap count_of number.0 ∙ number_again (2 ^ 32 - 1) n (omega arith) (omega (arith, number.1)) in
    ap (λ (d : ℕ). act_at (Some (d ∷ bytes))) is
    ∙ ap (λ (o : Option ℕ). act_of o (record { text = 112 ∷ (cut 32 bytes).0; remaining = length (112 ∷ bytes); after = (cut 32 bytes).1 })) read
    ∙ ap (λ (l : Unread). act_after n l) a.rest
