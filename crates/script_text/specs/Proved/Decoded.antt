-- What is decoded so far of a name or of data (own).
use Rattle.std.specs.Prelude.{ℕ, List, [], ◌∷◌, Option, None, ◌==◌, codes, if◌then◌else◌}
use Rattle.script_text.specs.ReadingNumbers.{hex_byte}
use Rattle.script_text.specs.ReadingNames.{itself}
use Rattle.std.specs.Option.{option_map}
use Rattle.script_text.specs.Reading.{byte_of}

-- a byte and what is left after it, where there is a byte
abbrev pub with_rest : Option ℕ → List ℕ → Option (ℕ × List ℕ)
with_rest byte cs = option_map (λ b. (b, cs)) byte

-- the byte of the first pair of digits, and what is left after it
abbrev pub first_paired : List ℕ → Option (ℕ × List ℕ)
first_paired [] = None
first_paired (c ∷ []) = None
first_paired (c ∷ d ∷ cs) = with_rest (hex_byte c d) cs

-- the first byte that a word stands for, and what is left after it
abbrev pub first_decoded : List ℕ → Option (ℕ × List ℕ)
first_decoded [] = None
first_decoded (c ∷ []) = with_rest (itself c) []
first_decoded (c ∷ d ∷ []) = with_rest (itself c) (d ∷ [])
first_decoded (c ∷ d ∷ e ∷ cs) = if c == byte_of (codes "%") then with_rest (hex_byte d e) cs else with_rest (itself c) (d ∷ e ∷ cs)
