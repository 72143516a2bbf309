-- The digits of numbers that have few of them, and the last four of others.
use Rattle.std.proofs.Common.{◌≡◌, ℕ, ◌+◌, ◌/◌, ◌%◌, ◌<◌, ◌≤◌, ◌^◌, List, [], ◌∷◌, ◌++◌, refl, sym, ap, ◌∙◌, arith, append_assoc}
use Rattle.std.proofs.lemmas.Fmt.{decimal_digit, decimal_step}
use Rattle.std.proofs.lemmas.List.{append-nil}
use Rattle.std.specs.Fmt.{decimal}
use Rattle.script_text.specs.Proved.Digits.{four_digits}

pub two_digits : (n : ℕ) → 10 ≤ n → n < 100 → decimal n ≡ (48 + n / 10) ∷ (48 + n % 10) ∷ []
two_digits n low high = rw (decimal_step n low (omega arith), decimal_digit (n / 10) (omega arith)) refl

pub three_digits : (n : ℕ) → 100 ≤ n → n < 1000 → decimal n ≡ (48 + n / 100) ∷ (48 + n / 10 % 10) ∷ (48 + n % 10) ∷ []
three_digits n low high =
    let hundreds : n / 10 / 10 ≡ n / 100 = omega arith in
    rw (decimal_step n (omega arith) (omega arith), two_digits (n / 10) (omega arith) (omega arith), hundreds) refl

pub all_four_digits : (n : ℕ) → 1000 ≤ n → n < 10000 → decimal n ≡ four_digits n
all_four_digits n low high =
    let thousands : n / 10 / 100 ≡ n / 1000 = omega arith in
    let hundreds : n / 10 / 10 ≡ n / 100 = omega arith in
    rw (decimal_step n (omega arith) (omega arith), three_digits (n / 10) (omega arith) (omega arith), thousands, hundreds) refl

-- the last digit, taken from a number before other digits
last_digit : (n : ℕ) (ds : List ℕ) → 10 ≤ n → n < 2 ^ 64 → decimal n ++ ds ≡ decimal (n / 10) ++ ((48 + n % 10) ∷ ds)
last_digit n ds low high = ap (λ (b : List ℕ). b ++ ds) (decimal_step n low high) ∙ append_assoc (decimal (n / 10)) ((48 + n % 10) ∷ []) ds

-- the digits before the last four, and these
pub last_four_digits : (n : ℕ) → 10000 ≤ n → n < 2 ^ 64 → decimal n ≡ decimal (n / 10000) ++ four_digits (n % 10000)
last_four_digits n low high =
    let front : n / 10 / 10 / 10 / 10 ≡ n / 10000 = omega arith in
    let thousands : n / 10 / 10 / 10 % 10 ≡ n % 10000 / 1000 = omega arith in
    let hundreds : n / 10 / 10 % 10 ≡ n % 10000 / 100 % 10 = omega arith in
    let tens : n / 10 % 10 ≡ n % 10000 / 10 % 10 = omega arith in
    let ones : n % 10 ≡ n % 10000 % 10 = omega arith in
    sym (append-nil (decimal n))
    ∙ last_digit n [] (omega arith) high
    ∙ last_digit (n / 10) ((48 + n % 10) ∷ []) (omega arith) (omega arith)
    ∙ last_digit (n / 10 / 10) ((48 + n / 10 % 10) ∷ (48 + n % 10) ∷ []) (omega arith) (omega arith)
    ∙ last_digit (n / 10 / 10 / 10) ((48 + n / 10 / 10 % 10) ∷ (48 + n / 10 % 10) ∷ (48 + n % 10) ∷ []) (omega arith) (omega arith)
    ∙ rw (front, thousands, hundreds, tens, ones) refl
