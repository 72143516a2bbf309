-- The last digits of a number, as they are written (own).
use Rattle.std.specs.Prelude.{ℕ, ◌+◌, ◌/◌, ◌%◌, List, [], ◌∷◌}
use Rattle.script_text.specs.ReadingNumbers.{digit_0}

-- the four digits of a number below 10,000, with zeros in front where it has fewer
abbrev pub four_digits : ℕ → List ℕ
four_digits n = (digit_0 + n / 1000) ∷ (digit_0 + n / 100 % 10) ∷ (digit_0 + n / 10 % 10) ∷ (digit_0 + n % 10) ∷ []
