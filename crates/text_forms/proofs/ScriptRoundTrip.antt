-- A line of acts that is shown with a string stands for itself.
use Rattle.std.proofs.Common.{◌≡◌, ℕ, ◌-◌, Bool, true, false, cond, eqb, ltb, ◌&&◌, List, [], ◌∷◌, ◌++◌, length, take, drop, Option, Some, None, refl, ap, sym, ◌∙◌, subst, append_assoc, length-append, arith, codes, if◌then◌else◌, ◌==◌}
use Rattle.std.specs.List.{flat_map}
use Rattle.std.proofs.lemmas.Bool.{and_parts, eqb-true, or_parts}
use Rattle.std.proofs.lemmas.List.{take_at}
use Rattle.text_forms.specs.declared.scripts.Lines.TheVariants as kinds
use Rattle.text_forms.specs.declared.scripts.marks.Sought.TheVariants as sought
use Rattle.text_forms.specs.Scripts.{quote, spelled, inside, paired, ends_word, is_text_word, begins_with, hash, then_from, from_first, data_part, ahead_of, opened, string_in, front_length, string_word, after_string, uncommented, plain_with, plain_line, strung_with, strung_line, unhashed, no_marks}
use Rattle.text_forms.proofs.ScriptCuts.{data_cut, text_cut, end_unmarked, front_unmarked, no_mark_found, no_comment, no_hash, unmarked}
use Rattle.text_forms.proofs.ScriptSpellings.{paired_back, string_back}
use Rattle.script_text.specs.Lines.{hex_pair}
use Rattle.script_text.specs.Reading.{space}

-- ---- a line without a string

data_free : (line : List ℕ) (part : Option (List ℕ)) → no_marks line ≡ true → data_part kinds.Acts line ≡ part
    → then_from (then_from part (from_first sought.AnyMark true)) opened ≡ None
data_free line None free e = refl
data_free line (Some part) free e =
    let k = data_cut line part e in
    let others = end_unmarked k.front part (subst (λ (xs : List ℕ). no_marks xs ≡ true) k.is free) in
    ap (λ (o : Option (List ℕ)). then_from o opened) (no_mark_found true part others)

none_either : (b : Bool) (found : Option (List ℕ)) → found ≡ None → cond b None found ≡ None
none_either true found e = refl
none_either false found e = e

-- a line without marks stands for itself
free_line : (line : List ℕ) → no_marks line ≡ true → plain_line line ≡ line
free_line line free =
    let none : string_in line ≡ None = none_either (begins_with hash line) _ (data_free line (data_part kinds.Acts line) free refl) in
    ap (λ (o : Option (List ℕ)). plain_with o line) none ∙ no_comment line free

-- ---- a line with one

ahead_at : (front word : List ℕ) → ahead_of word (front ++ word) ≡ front
ahead_at front word = take_at front word (length (front ++ word) - length word) (omega (arith, length-append front word))

front_at : (front string : List ℕ) → take (front_length string (front ++ quote ∷ string)) (front ++ quote ∷ string) ≡ front
front_at front string =
    take_at front (quote ∷ string) (front_length string (front ++ quote ∷ string)) (omega (arith, length-append front (quote ∷ string)))

-- a string that begins there, with its bytes and what is left after it
opens_string : (string after : List ℕ) → (inside string).1 ≡ quote ∷ after → ends_word after ≡ true → opened (quote ∷ string) ≡ Some string
opens_string string after is e = rw (is, e) refl

plain_from : (front string after : List ℕ) → (inside string).1 ≡ quote ∷ after → no_marks after ≡ true → string_in (front ++ quote ∷ string) ≡ Some string
    → plain_line (front ++ quote ∷ string) ≡ front ++ string_word string ++ after
plain_from front string after is free found =
    let rest : after_string string ≡ after = ap (λ (xs : List ℕ). uncommented (drop 1 xs)) is ∙ no_comment after free in
    ap (λ (o : Option (List ℕ)). plain_with o (front ++ quote ∷ string)) found ∙ rw (front_at front string, rest) refl

found_at : (front part string after : List ℕ) → no_marks front ≡ true → (inside string).1 ≡ quote ∷ after → ends_word after ≡ true
    → data_part kinds.Acts (front ++ quote ∷ string) ≡ Some part → from_first sought.AnyMark true part ≡ Some (quote ∷ string)
    → string_in (front ++ quote ∷ string) ≡ Some string
found_at front part string after free is e place mark =
    rw (no_hash front string free)
    (ap (λ (o : Option (List ℕ)). then_from (then_from o (from_first sought.AnyMark true)) opened) place
    ∙ ap (λ (o : Option (List ℕ)). then_from o opened) mark ∙ opens_string string after is e)

-- a word that a string can spell: an x and digits
pub record Word (word : List ℕ) : Type 0 where
  pub digits : List ℕ
  pub is : word ≡ 120 ∷ digits
  pub ends : ends_word (paired digits).1 ≡ true

word_of : (word : List ℕ) → is_text_word word ≡ true → Word word
word_of [] h = absurd cc
word_of (c ∷ cs) h =
    let p = and_parts (eqb c 120 && ltb 0 (length (paired cs).0)) (ends_word (paired cs).1) h in
    let k = and_parts (eqb c 120) (ltb 0 (length (paired cs).0)) p.0 in
    record { digits = cs; is = ap (λ (x : ℕ). x ∷ cs) (eqb-true c 120 k.0); ends = p.1 }

-- what a word of these digits is shown as, after its first quote
abbrev pub string_of : List ℕ → List ℕ
string_of digits = flat_map spelled (paired digits).0 ++ quote ∷ (paired digits).1

shown_at : (front digits : List ℕ) → strung_with kinds.Acts (Some (120 ∷ digits)) (front ++ 120 ∷ digits) ≡ front ++ quote ∷ string_of digits
shown_at front digits = rw (ahead_at front (120 ∷ digits)) (simp append_assoc)

plain_again : (front part digits : List ℕ) → no_marks (front ++ 120 ∷ digits) ≡ true → ends_word (paired digits).1 ≡ true
    → data_part kinds.Acts (front ++ quote ∷ string_of digits) ≡ Some part
    → from_first sought.AnyMark true part ≡ Some (quote ∷ string_of digits)
    → plain_line (front ++ quote ∷ string_of digits) ≡ front ++ 120 ∷ digits
plain_again front part digits free e place mark =
    let back = paired_back digits in
    let read = string_back (paired digits).0 (paired digits).1 back.1 in
    let left = ap (λ (parts : List ℕ × List ℕ). parts.1) read in
    let bytes = ap (λ (parts : List ℕ × List ℕ). parts.0) read in
    let free_word = subst (λ (xs : List ℕ). no_marks xs ≡ true) (sym (append_assoc front (120 ∷ []) digits)) free in
    let free_digits = subst (λ (xs : List ℕ). no_marks xs ≡ true) back.0 (end_unmarked (front ++ 120 ∷ []) digits free_word) in
    let free_after = end_unmarked (flat_map hex_pair (paired digits).0) (paired digits).1 free_digits in
    let found = found_at front part (string_of digits) (paired digits).1 (front_unmarked front (120 ∷ digits) free) left e place mark in
    plain_from front (string_of digits) (paired digits).1 left free_after found
    ∙ ap (λ (bs : List ℕ). front ++ (120 ∷ flat_map hex_pair bs) ++ (paired digits).1) bytes
    ∙ append_assoc front (120 ∷ flat_map hex_pair (paired digits).0) (paired digits).1
    ∙ ap (λ (xs : List ℕ). front ++ 120 ∷ xs) (sym back.0)

shown_part : (line part word : List ℕ) → no_marks line ≡ true → data_part kinds.Acts line ≡ Some part → from_first sought.TextWord true part ≡ Some word
    → plain_line (strung_with kinds.Acts (Some word) line) ≡ line
shown_part line part word free place text =
    let k = data_cut line part place in
    let t = text_cut true part word (end_unmarked k.front part (subst (λ (xs : List ℕ). no_marks xs ≡ true) k.is free)) text in
    let w = word_of word t.text in
    let other = quote ∷ string_of w.digits in
    let front = k.front ++ t.front in
    let rest : part ≡ t.front ++ 120 ∷ w.digits = t.is ∙ ap (λ (xs : List ℕ). t.front ++ xs) w.is in
    let is : line ≡ front ++ 120 ∷ w.digits = k.is ∙ ap (λ (xs : List ℕ). k.front ++ xs) rest ∙ sym (append_assoc k.front t.front (120 ∷ w.digits)) in
    let there : data_part kinds.Acts (front ++ other) ≡ Some (t.front ++ other)
    = ap (λ (xs : List ℕ). data_part kinds.Acts xs) (append_assoc k.front t.front other) ∙ k.again (t.front ++ other) in
    let free_now = subst (λ (xs : List ℕ). no_marks xs ≡ true) is free in
    let again = plain_again front (t.front ++ other) w.digits free_now w.ends there (t.again (string_of w.digits)) in
    let shown : strung_with kinds.Acts (Some word) line ≡ front ++ other
    = ap (λ (xs : List ℕ). strung_with kinds.Acts (Some word) xs) is
    ∙ ap (λ (xs : List ℕ). strung_with kinds.Acts (Some xs) (front ++ 120 ∷ w.digits)) w.is ∙ shown_at front w.digits in
    ap plain_line shown ∙ again ∙ sym is

-- nothing is spelled otherwise where there is no #
one_hashed : (begins is_hash : Bool) (c : ℕ) (cs rest : List ℕ) → is_hash ≡ false → rest ≡ cs → (if begins && is_hash then codes "%23" else c ∷ []) ++ rest
    ≡ c ∷ cs
one_hashed true true c cs rest free same = cc
one_hashed true false c cs rest free same = ap (λ (xs : List ℕ). c ∷ xs) same
one_hashed false is_hash c cs rest free same = ap (λ (xs : List ℕ). c ∷ xs) same

nothing_hashed : (begins : Bool) (line : List ℕ) → no_marks line ≡ true → unhashed begins line ≡ line
nothing_hashed begins [] free = refl
nothing_hashed begins (c ∷ cs) free =
    let f = unmarked c cs free in
    one_hashed begins (c == hash) c cs (unhashed (c == space) cs) (or_parts (c == hash) (c == quote) f.0).0 (nothing_hashed (c == space) cs f.1)

shown_word : (line part : List ℕ) (word : Option (List ℕ)) → no_marks line ≡ true → data_part kinds.Acts line ≡ Some part
    → from_first sought.TextWord true part ≡ word
    → plain_line (strung_with kinds.Acts word line) ≡ line
shown_word line part None free place text = ap plain_line (nothing_hashed true line free) ∙ free_line line free
shown_word line part (Some word) free place text = shown_part line part word free place text

shown_data : (line : List ℕ) (part : Option (List ℕ)) → no_marks line ≡ true → data_part kinds.Acts line ≡ part
    → plain_line (strung_with kinds.Acts (then_from part (from_first sought.TextWord true)) line) ≡ line
shown_data line None free place = ap plain_line (nothing_hashed true line free) ∙ free_line line free
shown_data line (Some part) free place = shown_word line part (from_first sought.TextWord true part) free place refl

pub shown_again : (line : List ℕ) → no_marks line ≡ true → plain_line (strung_line kinds.Acts line) ≡ line
shown_again line free = shown_data line (data_part kinds.Acts line) free refl
