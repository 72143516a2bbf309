-- A name or data is written as one of its spellings.
use Rattle.std.proofs.Common.{◌≡◌, ℕ, ◌<◌, ◌≤◌, Bool, true, false, cond, eqb, ltb, List, [], ◌∷◌, ◌++◌, length, replicate, Some, None, refl, ap, ◌∙◌, arith, inl, inr, ◌&&◌}
use Rattle.std.specs.List.{flat_map, list_all}
use Rattle.std.proofs.lemmas.Bool.{eqb-true, and_parts}
use Rattle.call_types.specs.declared.limits.TheConstants.{GIVEN_NAME_MAX, GIVEN_BYTES_MAX}
use Rattle.call_types.specs.Ranges.{AreBytes}
use Rattle.script_text.specs.ReadingNames.{is_plain}
use Rattle.script_text.specs.Lines.{hex_pair, name_byte, name_word, data_text, data_word}
use Rattle.script_text.specs.Spellings.{SpellsBytes, SpellsName, SpellsPairs, SpellsData}

byte_written : (b : Bool) (byte : ℕ) (bytes rest : List ℕ) → is_plain byte ≡ b → byte < 256 → SpellsBytes bytes rest →
    SpellsBytes (byte ∷ bytes) (cond b (byte ∷ []) (37 ∷ hex_pair byte) ++ rest)
byte_written true byte bytes rest e h s = inl (rest, e, refl, s)
byte_written false byte bytes rest e h s = inr (rest, h, refl, s)

bytes_written : (bytes : List ℕ) → AreBytes bytes → SpellsBytes bytes (flat_map name_byte bytes)
bytes_written [] h = refl
bytes_written (b ∷ bs) h = byte_written (is_plain b) b bs (flat_map name_byte bs) refl h.0 (bytes_written bs h.1)

pub name_written : (name : List ℕ) → AreBytes name → length name ≤ GIVEN_NAME_MAX → SpellsName name (name_word name)
name_written [] h le = refl
name_written (b ∷ bs) h le = (le, bytes_written (b ∷ bs) h)

pairs_written : (bytes : List ℕ) → AreBytes bytes → SpellsPairs bytes (flat_map hex_pair bytes)
pairs_written [] h = refl
pairs_written (b ∷ bs) h = (flat_map hex_pair bs, h.0, refl, pairs_written bs h.1)

all_equal : (byte : ℕ) (bytes : List ℕ) → list_all (λ b. eqb b byte) bytes ≡ true → bytes ≡ replicate (length bytes) byte
all_equal byte [] h = refl
all_equal byte (b ∷ bs) h =
    let parts = and_parts (eqb b byte) (list_all (λ b. eqb b byte) bs) h in
    ap (λ (x : ℕ). x ∷ bs) (eqb-true b byte parts.0) ∙ ap (λ (xs : List ℕ). byte ∷ xs) (all_equal byte bs parts.1)

repeated : (byte : ℕ) (bytes : List ℕ) → byte < 256 → length bytes ≤ GIVEN_BYTES_MAX → bytes ≡ replicate (length bytes) byte →
    SpellsData bytes (data_text (Some byte) bytes)
repeated byte bytes h le e = inr (byte, length bytes, h, le, e, refl)

by_test : (b : Bool) (byte : ℕ) (bytes : List ℕ) → (ltb 16 (length (byte ∷ bytes)) && list_all (λ c. eqb c byte) (byte ∷ bytes)) ≡ b → AreBytes (byte ∷ bytes) →
    length (byte ∷ bytes) ≤ GIVEN_BYTES_MAX
    → SpellsData (byte ∷ bytes) (data_text (cond b (Some byte) None) (byte ∷ bytes))
by_test true byte bytes t h le = repeated byte (byte ∷ bytes) h.0 le
    (all_equal byte (byte ∷ bytes) (and_parts (ltb 16 (length (byte ∷ bytes))) (list_all (λ c. eqb c byte) (byte ∷ bytes)) t).1)
by_test false byte bytes t h le = inl (flat_map hex_pair (byte ∷ bytes), le, refl, pairs_written (byte ∷ bytes) h)

pub data_written : (bytes : List ℕ) → AreBytes bytes → length bytes ≤ GIVEN_BYTES_MAX → SpellsData bytes (data_word bytes)
data_written [] h le = inl ([], omega arith, refl, refl)
data_written (b ∷ bs) h le = by_test (ltb 16 (length (b ∷ bs)) && list_all (λ c. eqb c b) (b ∷ bs)) b bs refl h le
