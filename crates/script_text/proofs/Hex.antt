-- The digits of bytes, as the hexadecimal encoder of the kit writes them.
use Rattle.std.proofs.Common.{◌≡◌, ℕ, suc, eqb, ◌/◌, ◌%◌, ◌<◌, List, [], ◌∷◌, get_or, refl, ap, arith}
use Rattle.std.specs.List.{flat_map}
use Rattle.std.proofs.lemmas.Bool.{eqb-true}
use Rattle.hex.specs.Hex.{encode_lower, encode_with, lower_digits}
use Rattle.script_text.specs.Lines.{hex_pair, hex_glyph}
use Rattle.script_text.proofs.Numerals.{each_below}

-- each glyph is the digit of the encoder's table
glyph : (d : ℕ) → d < 16 → get_or lower_digits d 0 ≡ hex_glyph d
glyph d lt = eqb-true _ _ (each_below 16 d (λ d. eqb (get_or lower_digits d 0) (hex_glyph d)) refl lt)

-- so its digits are those of a line
pub encoded : (bytes : List ℕ) → ((i : ℕ) → get_or bytes i 0 < 256) → encode_lower bytes ≡ flat_map hex_pair bytes
unfolding encode_with
encoded [] small = refl
encoded (b ∷ bytes) small =
    let lt : b < 256 = small 0 in
    rw (glyph (b / 16) (omega arith), glyph (b % 16) (omega arith))
    (ap (λ ds. hex_glyph (b / 16) ∷ hex_glyph (b % 16) ∷ ds) (encoded bytes (λ i. small (suc i))))
