-- Bytes that a string spells, and the digits that spell them.
use Rattle.std.proofs.Common.{◌≡◌, ℕ, ◌<◌, ◌+◌, ◌-◌, ◌*◌, ◌/◌, ◌%◌, Bool, true, false, cond, eqb, leb, ltb, ◌&&◌, List, [], ◌∷◌, ◌++◌, Option, Some, None, refl, ap, sym, ◌∙◌, subst, append_assoc, arith}
use Rattle.std.specs.List.{flat_map, list_all}
use Rattle.std.proofs.lemmas.Bool.{and_parts, eqb-true, leb-true, lt-ltb, le-ltb}
use Rattle.text_forms.specs.Scripts.{is_printable, itself, is_text, text_of, spelled, going, inside, paired, quote}
use Rattle.script_text.specs.Lines.{hex_glyph, hex_pair}
use Rattle.script_text.specs.ReadingNumbers.{hex_digit}

-- ---- digits

glyph_on : (c d : ℕ) (b t : Bool) → (leb 48 c && leb c 57) ≡ b → (leb 97 c && leb c 102) ≡ t
    → cond b (Some (c - 48)) (cond t (Some (c - 87)) None) ≡ Some d
    → (hex_glyph d ≡ c) × (d < 16)
glyph_on c d true t e f h =
    let parts = and_parts (leb 48 c) (leb c 57) e in
    let low = leb-true 48 c parts.0 in
    let high = leb-true c 57 parts.1 in
    let is : c - 48 ≡ d = cc in
    let small : ltb d 10 ≡ true = lt-ltb d 10 (omega arith) in
    (rw small (omega arith), omega arith)
glyph_on c d false true e f h =
    let parts = and_parts (leb 97 c) (leb c 102) f in
    let low = leb-true 97 c parts.0 in
    let high = leb-true c 102 parts.1 in
    let is : c - 87 ≡ d = cc in
    let large : ltb d 10 ≡ false = le-ltb d 10 (omega arith) in
    (rw large (omega arith), omega arith)
glyph_on c d false false e f h = absurd cc

-- the glyph of a digit is the digit
glyph : (c d : ℕ) → hex_digit c ≡ Some d → (hex_glyph d ≡ c) × (d < 16)
glyph c d h = glyph_on c d (leb 48 c && leb c 57) (leb 97 c && leb c 102) refl refl h

text_on : (n byte : ℕ) (t : Bool) → is_text n ≡ t → cond t (Some n) None ≡ Some byte → (n ≡ byte) × (is_text byte ≡ true)
text_on n byte true e h = let is : n ≡ byte = cc in (is, subst (λ (b : ℕ). is_text b ≡ true) is e)
text_on n byte false e h = absurd cc

pair_on : (c d byte : ℕ) (high low : Option ℕ) → hex_digit c ≡ high → hex_digit d ≡ low → text_of high low ≡ Some byte
    → (hex_pair byte ≡ c ∷ d ∷ []) × (is_text byte ≡ true)
pair_on c d byte None low e f h = absurd cc
pair_on c d byte (Some high) None e f h = absurd cc
pair_on c d byte (Some high) (Some low) e f h =
    let p = text_on (high * 16 + low) byte (is_text (high * 16 + low)) refl h in
    let g = glyph c high e in
    let k = glyph d low f in
    let lt = g.1 in
    let small = k.1 in
    let first : byte / 16 ≡ high = omega (arith, p.0) in
    let second : byte % 16 ≡ low = omega (arith, p.0) in
    (rw (first, second, g.0, k.0) refl, p.1)

-- digits, and what is read of them: they are those of the bytes, and of bytes that can stand in a string
abbrev pub BackAt : List ℕ → List ℕ × List ℕ → Type 0
BackAt digits parts = (digits ≡ flat_map hex_pair parts.0 ++ parts.1) × (list_all is_text parts.0 ≡ true)

back_on : (c d : ℕ) (cs : List ℕ) (byte : Option ℕ) (parts : List ℕ × List ℕ) → text_of (hex_digit c) (hex_digit d) ≡ byte → BackAt cs parts
    → BackAt (c ∷ d ∷ cs) (going byte parts (c ∷ d ∷ cs))
back_on c d cs None parts e others = (refl, refl)
back_on c d cs (Some byte) parts e others =
    let p = pair_on c d byte (hex_digit c) (hex_digit d) refl refl e in
    let glyphs = ap (λ (pair : List ℕ). pair ++ (flat_map hex_pair parts.0 ++ parts.1)) p.0 in
    (ap (λ (xs : List ℕ). c ∷ d ∷ xs) others.0 ∙ sym glyphs, rw (p.1, others.1) refl)

pub paired_back : (digits : List ℕ) → BackAt digits (paired digits)
paired_back [] = (refl, refl)
paired_back (c ∷ []) = (refl, refl)
paired_back (c ∷ d ∷ cs) = back_on c d cs (text_of (hex_digit c) (hex_digit d)) (paired cs) refl (paired_back cs)

-- ---- strings

-- a string that goes on with a byte
abbrev pub Spells : ℕ → List ℕ → List ℕ → Type 0
Spells byte bytes rest = inside bytes ≡ (byte ∷ (inside rest).0, (inside rest).1)

plain_first : (b : ℕ) (rest : List ℕ) → itself b ≡ Some b → eqb b 92 ≡ false → Spells b (b ∷ rest) rest
plain_first b [] e f = rw e refl
plain_first b (d ∷ cs) e f = rw (e, f) refl

itself_on : (b : ℕ) → is_text b ≡ true → eqb b 10 ≡ false → eqb b 9 ≡ false → eqb b 13 ≡ false → eqb b 34 ≡ false → eqb b 92 ≡ false
    → itself b ≡ Some b
itself_on b t e10 e9 e13 e34 e92 = printable (is_printable b) refl
  where
    printable : (p : Bool) → is_printable b ≡ p → itself b ≡ Some b
    printable true p = rw (p, e34, e92) refl
    printable false p = let bad = rw (p, e9, e10, e13) at t in absurd cc

plain_on : (b : ℕ) (rest : List ℕ) → is_text b ≡ true → eqb b 10 ≡ false → eqb b 9 ≡ false → eqb b 13 ≡ false → eqb b 34 ≡ false → eqb b 92 ≡ false
    → Spells b (b ∷ rest) rest
plain_on b rest t e10 e9 e13 e34 e92 = plain_first b rest (itself_on b t e10 e9 e13 e34 e92) e92

escaped_as : (k b : ℕ) (rest : List ℕ) → Spells k (spelled k ++ rest) rest → eqb b k ≡ true → Spells b (spelled b ++ rest) rest
escaped_as k b rest h e = subst (λ (byte : ℕ). Spells byte (spelled byte ++ rest) rest) (sym (eqb-true b k e)) h

spelled_first : (b : ℕ) (rest : List ℕ) → is_text b ≡ true → Spells b (spelled b ++ rest) rest
spelled_first b rest t = feed (eqb b 10) refl
  where
    slash : eqb b 10 ≡ false → eqb b 9 ≡ false → eqb b 13 ≡ false → eqb b 34 ≡ false → (k : Bool) → eqb b 92 ≡ k → Spells b (spelled b ++ rest) rest
    slash e10 e9 e13 e34 true e = escaped_as 92 b rest refl e
    slash e10 e9 e13 e34 false e = rw (e10, e9, e13, e34, e) (plain_on b rest t e10 e9 e13 e34 e)

    mark : eqb b 10 ≡ false → eqb b 9 ≡ false → eqb b 13 ≡ false → (k : Bool) → eqb b 34 ≡ k → Spells b (spelled b ++ rest) rest
    mark e10 e9 e13 true e = escaped_as 34 b rest refl e
    mark e10 e9 e13 false e = slash e10 e9 e13 e (eqb b 92) refl

    return : eqb b 10 ≡ false → eqb b 9 ≡ false → (k : Bool) → eqb b 13 ≡ k → Spells b (spelled b ++ rest) rest
    return e10 e9 true e = escaped_as 13 b rest refl e
    return e10 e9 false e = mark e10 e9 e (eqb b 34) refl

    tab : eqb b 10 ≡ false → (k : Bool) → eqb b 9 ≡ k → Spells b (spelled b ++ rest) rest
    tab e10 true e = escaped_as 9 b rest refl e
    tab e10 false e = return e10 e (eqb b 13) refl

    feed : (k : Bool) → eqb b 10 ≡ k → Spells b (spelled b ++ rest) rest
    feed true e = escaped_as 10 b rest refl e
    feed false e = tab e (eqb b 9) refl

ends_inside : (after : List ℕ) → inside (quote ∷ after) ≡ ([], quote ∷ after)
ends_inside [] = refl
ends_inside (c ∷ cs) = refl

-- a string of bytes is read as these
pub string_back : (bytes after : List ℕ) → list_all is_text bytes ≡ true → inside (flat_map spelled bytes ++ quote ∷ after) ≡ (bytes, quote ∷ after)
string_back [] after h = ends_inside after
string_back (b ∷ bs) after h =
    let p = and_parts (is_text b) (list_all is_text bs) h in
    let first = spelled_first b (flat_map spelled bs ++ quote ∷ after) p.0 in
    let others = string_back bs after p.1 in
    ap inside (append_assoc (spelled b) (flat_map spelled bs) (quote ∷ after)) ∙ first ∙ ap (λ (parts : List ℕ × List ℕ). (b ∷ parts.0, parts.1)) others
