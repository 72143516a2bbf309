-- Each kind of field is read from its spellings alone, and written as one of them. In these files X_takes says that what is
-- read is spelled so, X_again that what is spelled is read, X_unbroken that it has no space, and X_written that what is
-- written is a spelling.
use Rattle.std.proofs.Common.{◌≡◌, ℕ, ◌^◌, ◌-◌, ◌<◌, cond, List, Option, Some, None, refl, ap, ◌∙◌, arith, inl, inr}
use Rattle.std.specs.Prelude.{codes}
use Rattle.std.specs.Str.{bytes_eq}
use Rattle.std.specs.Fmt.{decimal}
use Rattle.std.proofs.lemmas.Slice.Eq.{bytes_eq-Decides}
use Rattle.call_types.specs.CallTable.{FieldKind, a_descriptor, a_position, a_count, a_name, a_payload, some_flags, a_whence, Value}
use Rattle.call_types.specs.declared.whence.Whence.{Whence}
use Rattle.call_types.specs.declared.whence.Whence.TheVariants as whences
use Rattle.script_text.specs.ReadingNumbers.{count_of, descriptor_of, position_of}
use Rattle.script_text.specs.ReadingFlags.{flags_of}
use Rattle.script_text.specs.ReadingCalls.{whence_of, value_of}
use Rattle.script_text.specs.Lines.{whence_word, field_word}
use Rattle.call_types.specs.Ranges.{FieldFits}
use Rattle.script_text.specs.Spellings.{SpellsField}
use Rattle.script_text.proofs.Numerals.{chosen, number_takes, number_again}
use Rattle.script_text.proofs.WordLaws.{Unbroken, unbroken, decimal_unbroken, signed_takes, signed_again, signed_unbroken, fits_32, within_32, fits_64, within_64}
use Rattle.script_text.proofs.NameLaws.{name_takes, name_again, name_unbroken}
use Rattle.script_text.proofs.DataLaws.{data_takes, data_again, data_unbroken}
use Rattle.script_text.proofs.FlagLaws.{flags_takes, flags_again, flags_unbroken}
use Rattle.script_text.proofs.WrittenWords.{name_written, data_written}

pub count_takes : (word : List ℕ) (n : ℕ) → count_of word ≡ Some n → (word ≡ decimal n) × (n < 2 ^ 32)
count_takes word n e =
    let t = number_takes (2 ^ 32 - 1) n word (omega arith) e in
    (t.0, omega (arith, t.1))

pub whence_takes : (word : List ℕ) (whence : Whence) → whence_of word ≡ Some whence → word ≡ whence_word whence
whence_takes word whence e =
    let none : Option Whence = None in
    let at_end : Option Whence = cond (bytes_eq word (codes "end")) (Some whences.End) none in
    let at_cur : Option Whence = cond (bytes_eq word (codes "cur")) (Some whences.Cur) at_end in
    elim (chosen (bytes_eq word (codes "set")) (Some whences.Set) at_cur (Some whence) e) [
      | inl is ↦ let w : whences.Set ≡ whence = let f = is.1 in cc in (bytes_eq-Decides word (codes "set")).0 is.0 ∙ ap whence_word w
      | inr other ↦
          elim (chosen (bytes_eq word (codes "cur")) (Some whences.Cur) at_end (Some whence) other.1) [
            | inl is ↦ let w : whences.Cur ≡ whence = let f = is.1 in cc in (bytes_eq-Decides word (codes "cur")).0 is.0 ∙ ap whence_word w
            | inr last ↦
                elim (chosen (bytes_eq word (codes "end")) (Some whences.End) none (Some whence) last.1) [
                  | inl is ↦ let w : whences.End ≡ whence = let f = is.1 in cc in (bytes_eq-Decides word (codes "end")).0 is.0 ∙ ap whence_word w
                  | inr other2 ↦ absurd (let f = other2.1 in cc)
                ]
          ]
    ]

pub whence_again : (whence : Whence) → whence_of (whence_word whence) ≡ Some whence
whence_again whences.Set = refl
whence_again other = refl

pub whence_unbroken : (whence : Whence) → Unbroken (whence_word whence)
whence_unbroken whences.Set = unbroken (codes "set") refl
whence_unbroken whences.Cur = unbroken (codes "cur") refl
whence_unbroken whences.End = unbroken (codes "end") refl

pub value_takes : (k : FieldKind) (word : List ℕ) (v : Value k) → value_of k word ≡ Some v → SpellsField k v word
value_takes a_descriptor word v e = let s = signed_takes (2 ^ 31 - 1) word v (omega arith) e in (s.0, fits_32 v s.1)
value_takes a_position word v e = let s = signed_takes (2 ^ 63 - 1) word v (omega arith) e in (s.0, fits_64 v s.1)
value_takes a_count word v e = count_takes word v e
value_takes a_name word v e = name_takes word v e
value_takes a_payload word v e = data_takes word v e
value_takes some_flags word v e = flags_takes word v e
value_takes a_whence word v e = whence_takes word v e

pub value_again : (k : FieldKind) (word : List ℕ) (v : Value k) → SpellsField k v word → value_of k word ≡ Some v
value_again a_descriptor word v s = ap descriptor_of s.0 ∙ signed_again (2 ^ 31 - 1) v (omega arith) (within_32 v s.1)
value_again a_position word v s = ap position_of s.0 ∙ signed_again (2 ^ 63 - 1) v (omega arith) (within_64 v s.1)
value_again a_count word v s = ap count_of s.0 ∙ number_again (2 ^ 32 - 1) v (omega arith) (omega (arith, s.1))
value_again a_name word v s = name_again v word s
value_again a_payload word v s = data_again v word s
value_again some_flags word v s = ap flags_of s.0 ∙ flags_again v s.1
value_again a_whence word v s = ap whence_of s ∙ whence_again v

pub value_unbroken : (k : FieldKind) (word : List ℕ) (v : Value k) → SpellsField k v word → Unbroken word
value_unbroken a_descriptor word v s = rw s.0 (signed_unbroken (2 ^ 31 - 1) v (omega arith) (within_32 v s.1))
value_unbroken a_position word v s = rw s.0 (signed_unbroken (2 ^ 63 - 1) v (omega arith) (within_64 v s.1))
value_unbroken a_count word v s = rw s.0 (decimal_unbroken v (omega (arith, s.1)))
value_unbroken a_name word v s = name_unbroken v word s
value_unbroken a_payload word v s = data_unbroken v word s
value_unbroken some_flags word v s = rw s.0 (flags_unbroken v s.1)
value_unbroken a_whence word v s = rw s (whence_unbroken v)

pub value_written : (k : FieldKind) (v : Value k) → FieldFits k v → SpellsField k v (field_word k v)
value_written a_descriptor v h = (refl, h)
value_written a_position v h = (refl, h)
value_written a_count v h = (refl, h)
value_written a_name v h = name_written v h.0 h.1
value_written a_payload v h = data_written v h.0 h.1
value_written some_flags v h = (refl, h)
value_written a_whence v h = refl
