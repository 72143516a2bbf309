-- Words of a script line that are flags, as numbers with a bit for each flag (own).
use Rattle.std.specs.Prelude.{ℕ, ◌==◌, List, [], ◌∷◌, length, drop, take, fold, codes, bit_or, Option, Some, None, if◌then◌else◌}
use Rattle.std.specs.Str.{bytes_eq}
use Rattle.call_types.specs.Flags.{reading, writing, creat, excl, trunc, appending, nonblocking}
use Rattle.script_text.specs.Reading.{byte_of}

-- a flag as it is written after the mode, and its bit
pub record Suffix : Type 0 where
  pub text : List ℕ
  pub bit : ℕ

-- the flags that may follow the mode, each at most once, in this order
abbrev pub suffixes : List Suffix
suffixes =
    record { text = codes ",creat"; bit = creat }
    ∷ record { text = codes ",excl"; bit = excl }
    ∷ record { text = codes ",trunc"; bit = trunc }
    ∷ record { text = codes ",append"; bit = appending }
    ∷ record { text = codes ",nonblock"; bit = nonblocking }
    ∷ []

-- the bits so far, and what is left of the word, after one suffix
abbrev pub with_suffix : ℕ × List ℕ → Suffix → ℕ × List ℕ
with_suffix x s = if bytes_eq (take (length s.text) x.1) s.text then (bit_or x.0 s.bit, drop (length s.text) x.1) else x

-- the bits, if nothing is left of the word
abbrev pub whole : ℕ → List ℕ → Option ℕ
whole bits [] = Some bits
whole bits (c ∷ cs) = None

-- the bits of a mode and of the suffixes after it
abbrev pub after_mode : ℕ → List ℕ → Option ℕ
after_mode mode cs = whole (fold with_suffix (mode, cs) suffixes).0 (fold with_suffix (mode, cs) suffixes).1

-- after an r: rw is reading and writing, r alone is reading
abbrev pub after_r : List ℕ → Option ℕ
after_r [] = after_mode reading []
after_r (c ∷ cs) = if c == byte_of (codes "w") then after_mode (bit_or reading writing) cs else after_mode reading (c ∷ cs)

-- flags: r, w, rw or -, and then suffixes
abbrev pub flags_of : List ℕ → Option ℕ
flags_of [] = None
flags_of (c ∷ cs) = if c == byte_of (codes "r") then after_r cs else if c == byte_of (codes "w") then after_mode writing cs else if c == byte_of
    (codes "-") then after_mode 0 cs else None
