-- The digits of one byte that stands many times.
use Rattle.std.proofs.Common.{◌≡◌, ℕ, zero, suc, ◌+◌, ◌/◌, ◌%◌, [], ◌∷◌, List, ◌++◌, get_or, replicate, refl, ap, add-one}
use Rattle.hex.specs.Hex.{encode_lower, encode_with, lower_digits}

-- one time more
next_time : (n byte : ℕ) → encode_lower (replicate (suc n) byte) ≡ encode_lower (replicate n byte) ++ encode_lower (byte ∷ [])
unfolding encode_with
next_time zero byte = refl
next_time (suc n) byte = ap (λ (digits : List ℕ). get_or lower_digits (byte / 16) 0 ∷ get_or lower_digits (byte % 16) 0 ∷ digits) (next_time n byte)

pub one_more : (n byte : ℕ) → encode_lower (replicate (n + 1) byte) ≡ encode_lower (replicate n byte) ++ encode_lower (byte ∷ [])
one_more n byte = rw add-one (next_time n byte)
