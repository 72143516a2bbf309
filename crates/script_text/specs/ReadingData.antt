-- Words of a script line that are data (own).
use Rattle.std.specs.Prelude.{ℕ, ◌*◌, ◌==◌, nat_le, List, [], ◌∷◌, length, codes, replicate, Option, Some, None, if◌then◌else◌}
use Rattle.call_types.specs.declared.limits.TheConstants.{GIVEN_BYTES_MAX}
use Rattle.script_text.specs.Reading.{byte_of, both}
use Rattle.script_text.specs.ReadingNumbers.{hex_byte, number_of}
use Rattle.script_text.specs.ReadingNames.{before}

-- the bytes that pairs of digits stand for
abbrev pub hex_bytes : List ℕ → Option (List ℕ)
hex_bytes [] = Some []
hex_bytes (c ∷ []) = None
hex_bytes (c ∷ d ∷ cs) = before (hex_byte c d) (hex_bytes cs)

-- pairs of digits, for as many bytes as a call may give at most
abbrev pub hex_data : List ℕ → Option (List ℕ)
hex_data cs = if nat_le (length cs) (2 * GIVEN_BYTES_MAX) then hex_bytes cs else None

-- a byte so many times, where there are both
abbrev pub times : Option ℕ → Option ℕ → Option (List ℕ)
times byte count = both (λ b n. replicate n b) byte count

-- two digits, a * and a count, of as many bytes as a call may give at most
abbrev pub repeated_data : List ℕ → Option (List ℕ)
repeated_data [] = None
repeated_data (c ∷ []) = None
repeated_data (c ∷ d ∷ []) = None
repeated_data (c ∷ d ∷ e ∷ cs) = if e == byte_of (codes "*") then times (hex_byte c d) (number_of GIVEN_BYTES_MAX cs) else None

-- data: an x and pairs of digits, or two digits, a * and a count
abbrev pub data_of : List ℕ → Option (List ℕ)
data_of [] = None
data_of (c ∷ cs) = if c == byte_of (codes "x") then hex_data cs else repeated_data (c ∷ cs)
