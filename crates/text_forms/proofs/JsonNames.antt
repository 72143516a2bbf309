-- Bytes of names that stand by their digits: none of these needs a \ before it in a string.
use Rattle.std.proofs.Common.{◌≡◌, ℕ, ◌<◌, ◌/◌, ◌%◌, Bool, false, not, [], ◌∷◌, get_or, refl, ap, arith, inl, inr}
use Rattle.std.specs.List.{flat_map, list_all}
use Rattle.std.proofs.lemmas.Bool.{cases_Bool}
use Rattle.std.proofs.lemmas.List.Folds.{list_all_at}
use Rattle.hex.specs.Hex.{encode_with, lower_digits}
use Rattle.text_forms.specs.Json.{coded_byte, is_plain, name_byte, needs_backslash, string_byte}

-- the digit of a value below 16
abbrev digit : ℕ → ℕ
digit value = get_or lower_digits value 0

-- whether a byte needs none
abbrev needs_none : ℕ → Bool
needs_none byte = not (needs_backslash byte)

-- no digit needs one
digit_is_safe : (value : ℕ) → value < 16 → needs_backslash (digit value) ≡ false
digit_is_safe value lt =
    elim (cases_Bool (needs_backslash (digit value))) [
      | inl needs ↦ (let all : list_all needs_none lower_digits ≡ false = list_all_at needs_none lower_digits value 0 lt (ap not needs) in absurd cc)
      | inr none ↦ none
    ]

-- so a string has it by itself
digit_by_itself : (value : ℕ) → value < 16 → string_byte (digit value) ≡ digit value ∷ []
digit_by_itself value lt = rw (digit_is_safe value lt) refl

coded : (byte : ℕ) → byte < 256 → flat_map string_byte (coded_byte byte) ≡ coded_byte byte
unfolding encode_with
coded byte lt = rw (digit_by_itself (byte / 16) (omega arith), digit_by_itself (byte % 16) (omega arith)) refl

-- such a byte of a name stands in a string as it is spelled
pub not_plain : (byte : ℕ) → byte < 256 → is_plain byte ≡ false → flat_map string_byte (name_byte byte) ≡ coded_byte byte
not_plain byte lt none = rw none (coded byte lt)
