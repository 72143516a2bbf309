-- Decoding names and digits from left to right.
use Rattle.std.proofs.Common.{◌≡◌, ℕ, ◌<◌, ◌+◌, Bool, true, false, cond, eqb, List, [], ◌∷◌, ◌++◌, length, Option, Some, None, refl, ap, sym, ◌∙◌, append_assoc, arith}
use Rattle.script_text.specs.ReadingNumbers.{hex_byte}
use Rattle.script_text.specs.ReadingNames.{before, decoded, itself}
use Rattle.script_text.specs.Proved.Decoded.{first_decoded, with_rest, first_paired}
use Rattle.script_text.specs.ReadingData.{hex_bytes}

-- the bytes so far, and those that follow, where there are some
abbrev pub joined : List ℕ → Option (List ℕ) → Option (List ℕ)
joined front None = None
joined front (Some bytes) = Some (front ++ bytes)

-- what all makes of the bytes after a first one
abbrev pub from_first : (List ℕ → Option (List ℕ)) → Option (ℕ × List ℕ) → Option (List ℕ)
from_first all None = None
from_first all (Some x) = before (Some x.0) (all x.1)

same_first : (all : List ℕ → Option (List ℕ)) (o : Option ℕ) (cs : List ℕ) → before o (all cs) ≡ from_first all (with_rest o cs)
same_first all None cs = refl
same_first all (Some byte) cs = refl

either : (b : Bool) (x y : Option ℕ) (cs ds : List ℕ) → cond b (before x (decoded cs)) (before y (decoded ds)) ≡ from_first decoded
    (cond b (with_rest x cs) (with_rest y ds))
either true x y cs ds = same_first decoded x cs
either false x y cs ds = same_first decoded y ds

-- the first byte is decoded, and then the others
decoded_first : (bytes : List ℕ) → 0 < length bytes → decoded bytes ≡ from_first decoded (first_decoded bytes)
decoded_first [] lt = absurd (omega arith)
decoded_first (c ∷ []) lt = same_first decoded (itself c) []
decoded_first (c ∷ d ∷ []) lt = same_first decoded (itself c) (d ∷ [])
decoded_first (c ∷ d ∷ e ∷ cs) lt = either (eqb c 37) (hex_byte d e) (itself c) cs (d ∷ e ∷ cs)

pub decoded_is : (bytes : List ℕ) (x : ℕ × List ℕ) → first_decoded bytes ≡ Some x → decoded bytes ≡ from_first decoded (Some x)
decoded_is [] x h = absurd cc
decoded_is (c ∷ cs) x h = decoded_first (c ∷ cs) (omega arith) ∙ ap (from_first decoded) h

-- the first pair of digits is read, and then the others
hex_bytes_first : (bytes : List ℕ) → 0 < length bytes → hex_bytes bytes ≡ from_first hex_bytes (first_paired bytes)
hex_bytes_first [] lt = absurd (omega arith)
hex_bytes_first (c ∷ []) lt = refl
hex_bytes_first (c ∷ d ∷ cs) lt = same_first hex_bytes (hex_byte c d) cs

pub hex_bytes_is : (bytes : List ℕ) (x : ℕ × List ℕ) → first_paired bytes ≡ Some x → hex_bytes bytes ≡ from_first hex_bytes (Some x)
hex_bytes_is [] x h = absurd cc
hex_bytes_is (c ∷ cs) x h = hex_bytes_first (c ∷ cs) (omega arith) ∙ ap (from_first hex_bytes) h

joined_more : (front : List ℕ) (byte : ℕ) (rest : Option (List ℕ)) → joined (front ++ byte ∷ []) rest ≡ joined front (before (Some byte) rest)
joined_more front byte None = refl
joined_more front byte (Some bytes) = ap (λ (b : List ℕ). Some b) (simp append_assoc)

-- one byte further
pub goes_on : (all : List ℕ → Option (List ℕ)) (front bytes : List ℕ) (byte : ℕ) (after : List ℕ) (total : Option (List ℕ)) →
    all bytes ≡ from_first all (Some (byte, after)) → joined front (all bytes) ≡ total → joined (front ++ byte ∷ []) (all after) ≡ total
goes_on all front bytes byte after total h so_far = joined_more front byte (all after) ∙ ap (joined front) (sym h) ∙ so_far

-- how many bytes the digits stand for
halves : (o : Option ℕ) (rest : Option (List ℕ)) (bytes : List ℕ) (n : ℕ) → ((others : List ℕ) → rest ≡ Some others → length others + length others ≡ n) →
    before o rest ≡ Some bytes → length bytes + length bytes ≡ n + 2
halves None rest bytes n h e = absurd cc
halves (Some b) None bytes n h e = absurd cc
halves (Some b) (Some others) bytes n h e =
    let some : Option (List ℕ) = Some (b ∷ others) in
    let is : b ∷ others ≡ bytes = cc in
    let len : length others + length others ≡ n = h others refl in
    omega (arith, ap length is)

pub half : (digits bytes : List ℕ) → hex_bytes digits ≡ Some bytes → length bytes + length bytes ≡ length digits
half [] bytes e = let is : [] ≡ bytes = cc in omega (arith, ap length is)
half (c ∷ []) bytes e = absurd cc
half (c ∷ d ∷ cs) bytes e = omega (arith, halves (hex_byte c d) (hex_bytes cs) bytes (length cs) (λ others o. half cs others o) e)
