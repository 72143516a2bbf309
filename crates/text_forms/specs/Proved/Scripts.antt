-- The first byte of a string and of what spells it, and the first line of a text (own).
use Rattle.std.specs.Prelude.{ℕ, ◌+◌, ◌==◌, List, [], ◌∷◌, take, drop, Option, None, if◌then◌else◌}
use Rattle.std.specs.Option.{option_map}
use Rattle.std.specs.List.{position}
use Rattle.text_forms.specs.Scripts.{is_feed, backslash, itself, escaped, text_of}
use Rattle.script_text.specs.ReadingNumbers.{hex_digit}

-- a byte and what is left after it, where there is a byte
abbrev pub with_rest : Option ℕ → List ℕ → Option (ℕ × List ℕ)
with_rest byte cs = option_map (λ b. (b, cs)) byte

-- the first byte inside a string, and what is left after it
abbrev pub first_inside : List ℕ → Option (ℕ × List ℕ)
first_inside [] = None
first_inside (c ∷ []) = with_rest (itself c) []
first_inside (c ∷ d ∷ cs) = if c == backslash then with_rest (escaped d) cs else with_rest (itself c) (d ∷ cs)

-- the byte of the first pair of digits, where it can stand in a string, and what is left after it
abbrev pub first_paired : List ℕ → Option (ℕ × List ℕ)
first_paired [] = None
first_paired (c ∷ []) = None
first_paired (c ∷ d ∷ cs) = with_rest (text_of (hex_digit c) (hex_digit d)) cs

-- the text cut at an LF
abbrev pub cut_line : List ℕ → Option ℕ → Option (List ℕ × List ℕ)
cut_line text feed = option_map (λ i. (take i text, drop (i + 1) text)) feed

-- the first line, and what stands after it, where an LF ends it
abbrev pub first_line : List ℕ → Option (List ℕ × List ℕ)
first_line text = cut_line text (position is_feed text)
