-- A name is read from its spellings alone.
use Rattle.std.proofs.Common.{◌≡◌, ◌≢◌, ℕ, ◌+◌, ◌<◌, ◌≤◌, ◌/◌, ◌%◌, true, false, eqb, leb, ltb, List, [], ◌∷◌, ◌++◌, length, Option, Some, None, refl, sym, ap, subst, ◌∙◌, arith, inl, inr}
use Rattle.std.specs.Prelude.{not}
use Rattle.std.proofs.lemmas.Bool.{eqb-true, ne_eqb, and_parts, leb-true, le-leb, cond-true, cond-false, cond_both, not-true}
use Rattle.std.proofs.lemmas.Option.{cond_some}
use Rattle.std.specs.Char.{is_ascii_graphic}
use Rattle.call_types.specs.declared.limits.TheConstants.{GIVEN_NAME_MAX}
use Rattle.script_text.specs.ReadingNumbers.{hex_byte}
use Rattle.script_text.specs.ReadingNames.{is_plain, before, itself, decoded, at_most, name_of}
use Rattle.script_text.specs.Lines.{hex_pair, hex_glyph}
use Rattle.script_text.specs.Spellings.{SpellsBytes, SpellsName}
use Rattle.script_text.proofs.Numerals.{both_parts, chosen, pair_takes, pair_again}
use Rattle.script_text.proofs.WordLaws.{Unbroken}

-- a plain byte, and the others
itself_takes : (c : ℕ) (cs : List ℕ) (bytes : List ℕ) → ((others : List ℕ) → decoded cs ≡ Some others → SpellsBytes others cs) →
    before (itself c) (decoded cs) ≡ Some bytes → SpellsBytes bytes (c ∷ cs)
itself_takes c cs bytes rest e =
    let p = both_parts (λ (b : ℕ) (bs : List ℕ). b ∷ bs) (itself c) (decoded cs) bytes e in
    let one = cond_some (is_plain c) c p.0 p.2 in
    subst (λ (bs : List ℕ). SpellsBytes bs (c ∷ cs)) p.4 (inl (
      cs,
      subst (λ (b : ℕ). is_plain b ≡ true) one.1 one.0,
      ap (λ (b : ℕ). b ∷ cs) one.1,
      rest p.1 p.3,
    ))

-- a byte by its digits, and the others
digits_takes : (c d e : ℕ) (cs : List ℕ) (bytes : List ℕ) → c ≡ 37 → ((others : List ℕ) → decoded cs ≡ Some others → SpellsBytes others cs) →
    before (hex_byte d e) (decoded cs) ≡ Some bytes → SpellsBytes bytes (c ∷ d ∷ e ∷ cs)
digits_takes c d e cs bytes percent rest h =
    let p = both_parts (λ (b : ℕ) (bs : List ℕ). b ∷ bs) (hex_byte d e) (decoded cs) bytes h in
    let pair = pair_takes d e p.0 p.2 in
    let text : (c ∷ d ∷ e ∷ cs) ≡ 37 ∷ (hex_pair p.0 ++ cs) = ap (λ (x : ℕ). x ∷ d ∷ e ∷ cs) percent ∙ ap (λ (x : ℕ). 37 ∷ x ∷ e ∷ cs) pair.0 ∙
    ap (λ (x : ℕ). 37 ∷ hex_glyph (p.0 / 16) ∷ x ∷ cs) pair.1 in
    subst (λ (bs : List ℕ). SpellsBytes bs (c ∷ d ∷ e ∷ cs)) p.4 (inr (cs, pair.2, text, rest p.1 p.3))

pub decoded_takes : (text bytes : List ℕ) → decoded text ≡ Some bytes → SpellsBytes bytes text
decoded_takes [] bytes e = let is : [] ≡ bytes = cc in subst (λ (bs : List ℕ). SpellsBytes bs []) is refl
decoded_takes (c ∷ []) bytes e = itself_takes c [] bytes (λ others h. decoded_takes [] others h) e
decoded_takes (c ∷ d ∷ []) bytes e = itself_takes c (d ∷ []) bytes (λ others h. decoded_takes (d ∷ []) others h) e
decoded_takes (c ∷ d ∷ f ∷ cs) bytes e =
    elim (chosen (eqb c 37) (before (hex_byte d f) (decoded cs)) (before (itself c) (decoded (d ∷ f ∷ cs))) (Some bytes) e) [
      | inl percent ↦ digits_takes c d f cs bytes (eqb-true c 37 percent.0) (λ others h. decoded_takes cs others h) percent.1
      | inr other ↦ itself_takes c (d ∷ f ∷ cs) bytes (λ others h. decoded_takes (d ∷ f ∷ cs) others h) other.1
    ]

no_percent : (c : ℕ) → is_plain c ≡ true → eqb c 37 ≡ false
no_percent c h = not-true (eqb c 37) (and_parts (is_ascii_graphic c) (not (eqb c 37)) h).1

itself_is : (c : ℕ) → is_plain c ≡ true → itself c ≡ Some c
itself_is c h = cond-true (is_plain c) (Some c) None h

plain_again : (c : ℕ) (rest bytes : List ℕ) → is_plain c ≡ true → decoded rest ≡ Some bytes → decoded (c ∷ rest) ≡ Some (c ∷ bytes)
plain_again c [] bytes h e = ap (λ (o : Option ℕ). before o (decoded [])) (itself_is c h) ∙ ap (before (Some c)) e
plain_again c (d ∷ []) bytes h e = ap (λ (o : Option ℕ). before o (decoded (d ∷ []))) (itself_is c h) ∙ ap (before (Some c)) e
plain_again c (d ∷ f ∷ cs) bytes h e =
    cond-false (eqb c 37) (before (hex_byte d f) (decoded cs)) (before (itself c) (decoded (d ∷ f ∷ cs))) (no_percent c h)
    ∙ ap (λ (o : Option ℕ). before o (decoded (d ∷ f ∷ cs))) (itself_is c h) ∙ ap (before (Some c)) e

digits_again : (byte : ℕ) (rest bytes : List ℕ) → byte < 256 → decoded rest ≡ Some bytes → decoded (37 ∷ (hex_pair byte ++ rest)) ≡ Some (byte ∷ bytes)
digits_again byte rest bytes h e = ap (λ (o : Option ℕ). before o (decoded rest)) (pair_again byte h) ∙ ap (before (Some byte)) e

pub decoded_again : (bytes text : List ℕ) → SpellsBytes bytes text → decoded text ≡ Some bytes
decoded_again [] text e = rw e refl
decoded_again (b ∷ bs) text (inl p) = ap decoded p.2 ∙ plain_again b p.0 bs p.1 (decoded_again bs p.0 p.3)
decoded_again (b ∷ bs) text (inr p) = ap decoded p.2 ∙ digits_again b p.0 bs p.1 (decoded_again bs p.0 p.3)

glyph_high : (d : ℕ) → 48 ≤ hex_glyph d
glyph_high d = cond_both (ltb d 10) (48 + d) (87 + d) (λ x. 48 ≤ x) (λ _. omega arith) (λ _. omega arith)

pub glyph_unbroken : (d : ℕ) → hex_glyph d ≡ 32 → ⊥
glyph_unbroken d e = omega (arith, glyph_high d)

plain_unbroken : (c : ℕ) → is_plain c ≡ true → c ≡ 32 → ⊥
plain_unbroken c h e =
    let graphic = and_parts (is_ascii_graphic c) (not (eqb c 37)) h in
    let low = and_parts (leb 33 c) (leb c 126) graphic.0 in
    omega (arith, leb-true 33 c low.0)

bytes_unbroken : (bytes text : List ℕ) → SpellsBytes bytes text → Unbroken text
bytes_unbroken [] text e = rw e tt
bytes_unbroken (b ∷ bs) text (inl p) = subst Unbroken (sym p.2) (plain_unbroken b p.1, bytes_unbroken bs p.0 p.3)
bytes_unbroken (b ∷ bs) text (inr p) = subst Unbroken (sym p.2)
    (λ e. omega arith, (glyph_unbroken (b / 16), (glyph_unbroken (b % 16), bytes_unbroken bs p.0 p.3)))

pub name_unbroken : (name word : List ℕ) → SpellsName name word → Unbroken word
name_unbroken [] word e = subst Unbroken (sym e) (λ h. omega arith, tt)
name_unbroken (b ∷ bs) word p = bytes_unbroken (b ∷ bs) word p.1

at_most_takes : (most : ℕ) (o : Option (List ℕ)) (bytes : List ℕ) → at_most most o ≡ Some bytes → (o ≡ Some bytes) × (length bytes ≤ most)
at_most_takes most None bytes e = absurd cc
at_most_takes most (Some found) bytes e =
    let c = cond_some (leb (length found) most) found bytes e in
    (ap (λ (b : List ℕ). Some b) c.1, subst (λ (b : List ℕ). length b ≤ most) c.1 (leb-true _ _ c.0))

some_name : (word name : List ℕ) → 0 < length word → at_most GIVEN_NAME_MAX (decoded word) ≡ Some name → SpellsName name word
some_name word [] lt e =
    let empty : word ≡ [] = decoded_takes word [] (at_most_takes GIVEN_NAME_MAX (decoded word) [] e).0 in
    absurd (omega (arith, ap length empty))
some_name word (b ∷ bs) lt e =
    let found = at_most_takes GIVEN_NAME_MAX (decoded word) (b ∷ bs) e in
    (found.1, decoded_takes word (b ∷ bs) found.0)

pub name_takes : (word name : List ℕ) → name_of word ≡ Some name → SpellsName name word
name_takes [] name e = absurd cc
name_takes (c ∷ []) name e =
    elim (chosen (eqb c 37) (Some []) (at_most GIVEN_NAME_MAX (decoded (c ∷ []))) (Some name) e) [
      | inl percent ↦
          let none : [] ≡ name = let f = percent.1 in cc in
          subst (λ (n : List ℕ). SpellsName n (c ∷ [])) none (ap (λ (x : ℕ). x ∷ []) (eqb-true c 37 percent.0))
      | inr other ↦ some_name (c ∷ []) name (omega arith) other.1
    ]
name_takes (c ∷ d ∷ cs) name e = some_name (c ∷ d ∷ cs) name (omega arith) e

at_most_again : (most : ℕ) (o : Option (List ℕ)) (bytes : List ℕ) → o ≡ Some bytes → length bytes ≤ most → at_most most o ≡ Some bytes
at_most_again most o bytes e h = ap (at_most most) e ∙ cond-true (leb (length bytes) most) (Some bytes) None (le-leb _ _ h)

nonempty : (word name : List ℕ) → 0 < length name → decoded word ≡ Some name → 0 < length word
nonempty [] name lt e = let is : [] ≡ name = cc in absurd (omega (arith, ap length is))
nonempty (c ∷ cs) name lt e = omega arith

longer_name : (word name : List ℕ) → word ≢ 37 ∷ [] → 0 < length word → decoded word ≡ Some name → length name ≤ GIVEN_NAME_MAX → name_of word ≡ Some name
longer_name [] name other lt e h = absurd (omega arith)
longer_name (c ∷ []) name other lt e h =
    cond-false (eqb c 37) (Some []) (at_most GIVEN_NAME_MAX (decoded (c ∷ []))) (ne_eqb c 37 (λ is. other (ap (λ (x : ℕ). x ∷ []) is))) ∙
    at_most_again GIVEN_NAME_MAX (decoded (c ∷ [])) name e h
longer_name (c ∷ d ∷ cs) name other lt e h = at_most_again GIVEN_NAME_MAX (decoded (c ∷ d ∷ cs)) name e h

pub name_again : (name word : List ℕ) → SpellsName name word → name_of word ≡ Some name
name_again [] word e = ap name_of e
name_again (b ∷ bs) word p =
    let e : decoded word ≡ Some (b ∷ bs) = decoded_again (b ∷ bs) word p.1 in
    longer_name word (b ∷ bs) (λ (is : word ≡ 37 ∷ []). let f : None ≡ Some (b ∷ bs) = sym (ap decoded is) ∙ e in cc) (nonempty word (b ∷ bs) (omega arith) e) e
    p.0
