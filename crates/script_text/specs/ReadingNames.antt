-- Words of a script line that are names (own).
use Rattle.std.specs.Prelude.{ℕ, ◌==◌, nat_le, Bool, ◌&&◌, not, List, [], ◌∷◌, length, codes, Option, Some, None, if◌then◌else◌}
use Rattle.std.specs.Char.{is_ascii_graphic}
use Rattle.call_types.specs.declared.limits.TheConstants.{GIVEN_NAME_MAX}
use Rattle.script_text.specs.Reading.{byte_of, both}
use Rattle.script_text.specs.ReadingNumbers.{hex_byte}

-- whether a byte of a name stands for itself: 33 to 126, and no %
abbrev pub is_plain : ℕ → Bool
is_plain c = is_ascii_graphic c && not (c == byte_of (codes "%"))

-- a byte before the others, where there are some
abbrev pub before : Option ℕ → Option (List ℕ) → Option (List ℕ)
before byte bytes = both (λ b bs. b ∷ bs) byte bytes

-- the byte that a plain one stands for
abbrev pub itself : ℕ → Option ℕ
itself c = if is_plain c then Some c else None

-- the bytes that a word stands for: a % and two digits for any byte, a plain byte for itself
abbrev pub decoded : List ℕ → Option (List ℕ)
decoded [] = Some []
decoded (c ∷ []) = before (itself c) (Some [])
decoded (c ∷ d ∷ []) = before (itself c) (decoded (d ∷ []))
decoded (c ∷ d ∷ e ∷ cs) = if c == byte_of (codes "%") then before (hex_byte d e) (decoded cs) else before (itself c) (decoded (d ∷ e ∷ cs))

-- bytes of which there are at most most
abbrev pub at_most : ℕ → Option (List ℕ) → Option (List ℕ)
at_most most None = None
at_most most (Some bytes) = if nat_le (length bytes) most then Some bytes else None

-- a name, no longer than a call may give it: % alone is the empty one
abbrev pub name_of : List ℕ → Option (List ℕ)
name_of [] = None
name_of (c ∷ []) = if c == byte_of (codes "%") then Some [] else at_most GIVEN_NAME_MAX (decoded (c ∷ []))
name_of (c ∷ d ∷ cs) = at_most GIVEN_NAME_MAX (decoded (c ∷ d ∷ cs))
