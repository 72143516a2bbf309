-- Words of a script line that are numbers, or hexadecimal digits (own).
use Rattle.std.specs.Prelude.{ℕ, zero, suc, ◌+◌, ◌*◌, ◌-◌, ◌^◌, List, [], ◌∷◌, codes, Option, Some, None, ◌&&◌, nat_le, ◌==◌, if◌then◌else◌, ℤ, pos, negsuc}
use Rattle.std.specs.Char.{is_ascii_digit}
use Rattle.script_text.specs.Reading.{byte_of, both}

-- the byte of the digit 0
abbrev pub digit_0 : ℕ
digit_0 = byte_of (codes "0")

-- the byte of the letter a
abbrev pub letter_a : ℕ
letter_a = byte_of (codes "a")

-- the value of a lower case hexadecimal digit
abbrev pub hex_digit : ℕ → Option ℕ
hex_digit c = if is_ascii_digit c then Some (c - digit_0) else if nat_le letter_a c && nat_le c (letter_a + 5) then Some (c - (letter_a - 10)) else None

-- the byte that two such digits stand for
abbrev pub hex_byte : ℕ → ℕ → Option ℕ
hex_byte high low = both (λ h l. h * 16 + l) (hex_digit high) (hex_digit low)

-- the number that digits make after those that made so_far, while it is at most most
abbrev pub digits_on : ℕ → ℕ → List ℕ → Option ℕ
digits_on most so_far [] = Some so_far
digits_on most so_far (c ∷ cs) = if is_ascii_digit c && nat_le (so_far * 10 + (c - digit_0)) most then digits_on most (so_far * 10 + (c - digit_0)) cs else None

-- nothing follows a zero in front
abbrev pub zero_alone : List ℕ → Option ℕ
zero_alone [] = Some 0
zero_alone (c ∷ cs) = None

-- a number that is at most most: decimal, without leading zeros
abbrev pub number_of : ℕ → List ℕ → Option ℕ
number_of most [] = None
number_of most (c ∷ cs) = if c == digit_0 then zero_alone cs else digits_on most 0 (c ∷ cs)

-- a count: 32 bits
abbrev pub count_of : List ℕ → Option ℕ
count_of word = number_of (2 ^ 32 - 1) word

-- a process: a p, and its number of 32 bits
abbrev pub process_of : List ℕ → Option ℕ
process_of [] = None
process_of (c ∷ cs) = if c == byte_of (codes "p") then count_of cs else None

-- the negative of a number that is not 0
abbrev pub negative : Option ℕ → Option ℤ
negative None = None
negative (Some zero) = None
negative (Some (suc n)) = Some (negsuc n)

-- the number itself
abbrev pub not_negative : Option ℕ → Option ℤ
not_negative None = None
not_negative (Some n) = Some (pos n)

-- a number of at most most, or a - and a number from 1 to most + 1
abbrev pub signed_of : ℕ → List ℕ → Option ℤ
signed_of most [] = None
signed_of most (c ∷ cs) = if c == byte_of (codes "-") then negative (number_of (most + 1) cs) else not_negative (number_of most (c ∷ cs))

-- a descriptor: 32 bits with a sign
abbrev pub descriptor_of : List ℕ → Option ℤ
descriptor_of word = signed_of (2 ^ 31 - 1) word

-- a position, an offset or a length: 64 bits with a sign
abbrev pub position_of : List ℕ → Option ℤ
position_of word = signed_of (2 ^ 63 - 1) word
