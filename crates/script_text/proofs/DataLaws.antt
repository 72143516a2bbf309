-- Data is read from its spellings alone.
use Rattle.std.proofs.Common.{◌≡◌, ℕ, ◌+◌, ◌<◌, ◌≤◌, ◌/◌, ◌%◌, false, eqb, leb, ltb, List, [], ◌∷◌, ◌++◌, length, replicate, ◌*◌, Option, Some, None, refl, sym, ap, subst, ◌∙◌, arith, inl, inr}
use Rattle.std.proofs.lemmas.Bool.{eqb-true, leb-true, le-leb, cond-true, cond-false, cond_both, ne_eqb, ltb-true}
use Rattle.std.specs.Fmt.{decimal}
use Rattle.call_types.specs.declared.limits.TheConstants.{GIVEN_BYTES_MAX}
use Rattle.script_text.specs.ReadingNumbers.{hex_byte, number_of}
use Rattle.script_text.specs.ReadingNames.{before}
use Rattle.script_text.specs.ReadingData.{hex_bytes, hex_data, times, repeated_data, data_of}
use Rattle.script_text.specs.Lines.{hex_pair, hex_glyph}
use Rattle.script_text.specs.Spellings.{SpellsPairs, SpellsDigits, SpellsRepeated, SpellsData}
use Rattle.script_text.proofs.Names.{half}
use Rattle.script_text.proofs.Numerals.{both_parts, chosen, pair_takes, pair_again, number_takes, number_again}
use Rattle.script_text.proofs.WordLaws.{Unbroken, decimal_unbroken}
use Rattle.script_text.proofs.NameLaws.{glyph_unbroken}

-- two digits that are read are those of the byte
spelled : (c d byte : ℕ) (cs : List ℕ) → hex_byte c d ≡ Some byte → (c ∷ d ∷ cs) ≡ hex_pair byte ++ cs
spelled c d byte cs e =
    let pair = pair_takes c d byte e in
    ap (λ (x : ℕ). x ∷ d ∷ cs) pair.0 ∙ ap (λ (x : ℕ). hex_glyph (byte / 16) ∷ x ∷ cs) pair.1

pub pairs_takes : (text bytes : List ℕ) → hex_bytes text ≡ Some bytes → SpellsPairs bytes text
pairs_takes [] bytes e = let is : [] ≡ bytes = cc in subst (λ (bs : List ℕ). SpellsPairs bs []) is refl
pairs_takes (c ∷ []) bytes e = absurd cc
pairs_takes (c ∷ d ∷ cs) bytes e =
    let p = both_parts (λ (b : ℕ) (bs : List ℕ). b ∷ bs) (hex_byte c d) (hex_bytes cs) bytes e in
    subst (λ (bs : List ℕ). SpellsPairs bs (c ∷ d ∷ cs)) p.4 (cs, (pair_takes c d p.0 p.2).2, spelled c d p.0 cs p.2, pairs_takes cs p.1 p.3)

pub pairs_again : (bytes text : List ℕ) → SpellsPairs bytes text → hex_bytes text ≡ Some bytes
pairs_again [] text e = ap hex_bytes e
pairs_again (b ∷ bs) text p =
    ap hex_bytes p.2 ∙ ap (λ (o : Option ℕ). before o (hex_bytes p.0)) (pair_again b p.1) ∙ ap (before (Some b)) (pairs_again bs p.0 p.3)

pairs_unbroken : (bytes text : List ℕ) → SpellsPairs bytes text → Unbroken text
pairs_unbroken [] text e = subst Unbroken (sym e) tt
pairs_unbroken (b ∷ bs) text p = subst Unbroken (sym p.2) (glyph_unbroken (b / 16), (glyph_unbroken (b % 16), pairs_unbroken bs p.0 p.3))

digits_takes : (text bytes : List ℕ) → hex_data text ≡ Some bytes → SpellsDigits bytes (120 ∷ text)
digits_takes text bytes e =
    elim (chosen (leb (length text) (2 * GIVEN_BYTES_MAX)) (hex_bytes text) None (Some bytes) e) [
      | inl short ↦ (text, omega (arith, half text bytes short.1, leb-true (length text) (2 * GIVEN_BYTES_MAX) short.0), refl, pairs_takes text bytes short.1)
      | inr long ↦ absurd (let f = long.1 in cc)
    ]

digits_again : (bytes text : List ℕ) → SpellsDigits bytes text → data_of text ≡ Some bytes
digits_again bytes text p =
    let read : hex_bytes p.0 ≡ Some bytes = pairs_again bytes p.0 p.3 in
    let short : length p.0 ≤ (2 * GIVEN_BYTES_MAX) = omega (arith, half p.0 bytes read, p.1) in
    ap data_of p.2 ∙ cond-true (leb (length p.0) (2 * GIVEN_BYTES_MAX)) (hex_bytes p.0) None (le-leb _ _ short) ∙ read

repeated_takes : (text bytes : List ℕ) → repeated_data text ≡ Some bytes → SpellsRepeated bytes text
repeated_takes [] bytes e = absurd cc
repeated_takes (c ∷ []) bytes e = absurd cc
repeated_takes (c ∷ d ∷ []) bytes e = absurd cc
repeated_takes (c ∷ d ∷ f ∷ cs) bytes e =
    elim (chosen (eqb f 42) (times (hex_byte c d) (number_of GIVEN_BYTES_MAX cs)) None (Some bytes) e) [
      | inl star ↦
          let t = both_parts (λ (b n : ℕ). replicate n b) (hex_byte c d) (number_of GIVEN_BYTES_MAX cs) bytes star.1 in
          let n = number_takes GIVEN_BYTES_MAX t.1 cs (omega arith) t.3 in (
            t.0,
            t.1,
            (pair_takes c d t.0 t.2).2,
            n.1,
            sym t.4,
            spelled c d t.0 (f ∷ cs) t.2 ∙ ap (λ (x : ℕ). hex_pair t.0 ++ (x ∷ cs)) (eqb-true f 42 star.0) ∙
                ap (λ (ds : List ℕ). hex_pair t.0 ++ (42 ∷ ds)) n.0,
          )
      | inr other ↦ absurd (let g = other.1 in cc)
    ]

glyph_low : (d : ℕ) → d < 16 → hex_glyph d ≤ 102
glyph_low d h = cond_both (ltb d 10) (48 + d) (87 + d) (λ x. x ≤ 102) (λ t. omega (arith, ltb-true d 10 t)) (λ _. omega arith)

not_x : (d : ℕ) → d < 16 → hex_glyph d ≡ 120 → ⊥
not_x d h e = omega (arith, glyph_low d h)

repeated_again : (bytes text : List ℕ) → SpellsRepeated bytes text → data_of text ≡ Some bytes
repeated_again bytes text p =
    let byte : ℕ = p.0 in
    let count : ℕ = p.1 in
    let both : times (hex_byte (hex_glyph (byte / 16)) (hex_glyph (byte % 16))) (number_of GIVEN_BYTES_MAX (decimal count)) ≡ Some (replicate count byte) =
    ap (λ (o : Option ℕ). times o (number_of GIVEN_BYTES_MAX (decimal count))) (pair_again byte p.2) ∙
    ap (times (Some byte)) (number_again GIVEN_BYTES_MAX count (omega arith) p.3) in
    let other : eqb (hex_glyph (byte / 16)) 120 ≡ false = ne_eqb _ 120 (not_x (byte / 16) (omega (arith, p.2))) in
    ap data_of p.5 ∙ cond-false (eqb (hex_glyph (byte / 16)) 120) (hex_data (hex_glyph (byte % 16) ∷ 42 ∷ decimal count))
    (repeated_data (hex_pair byte ++ (42 ∷ decimal count))) other ∙ both ∙ ap (λ (bs : List ℕ). Some bs) (sym p.4)

pub data_takes : (word bytes : List ℕ) → data_of word ≡ Some bytes → SpellsData bytes word
data_takes [] bytes e = absurd cc
data_takes (c ∷ cs) bytes e =
    elim (chosen (eqb c 120) (hex_data cs) (repeated_data (c ∷ cs)) (Some bytes) e) [
      | inl x ↦ inl (subst (λ (d : ℕ). SpellsDigits bytes (d ∷ cs)) (sym (eqb-true c 120 x.0)) (digits_takes cs bytes x.1))
      | inr other ↦ inr (repeated_takes (c ∷ cs) bytes other.1)
    ]

pub data_again : (bytes word : List ℕ) → SpellsData bytes word → data_of word ≡ Some bytes
data_again bytes word (inl p) = digits_again bytes word p
data_again bytes word (inr p) = repeated_again bytes word p

pub data_unbroken : (bytes word : List ℕ) → SpellsData bytes word → Unbroken word
data_unbroken bytes word (inl p) = subst Unbroken (sym p.2) (λ e. omega arith, pairs_unbroken bytes p.0 p.3)
data_unbroken bytes word (inr p) = subst Unbroken (sym p.5) (
  glyph_unbroken (p.0 / 16),
  (glyph_unbroken (p.0 % 16), (λ e. omega arith, decimal_unbroken p.1 (omega (arith, p.3)))),
)
