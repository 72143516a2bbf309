-- A line that is read stands in the line of its record as it is, where no name and no data in it could be spelled otherwise.
use Rattle.std.proofs.Common.{◌≡◌, ℕ, ◌+◌, ◌*◌, ◌-◌, ◌/◌, ◌%◌, ◌<◌, ◌≤◌, ◌||◌, Bool, true, false, List, [], ◌∷◌, ◌++◌, length, replicate, get_or, Option, Some, None, Ok, refl, sym, ap, subst, ◌∙◌, append_assoc, arith, inl, inr}
use Rattle.std.specs.Prelude.{codes}
use Rattle.std.specs.List.{flat_map, slice_get}
use Rattle.std.specs.Fmt.{decimal}
use Rattle.std.proofs.Math.Seq.{get_or-append_seam}
use Rattle.std.proofs.lemmas.Bool.{le-ltb, cases_lt}
use Rattle.std.proofs.lemmas.Fmt.{decimal_digit}
use Rattle.std.proofs.lemmas.List.{length-append, length-replicate, append-nil}
use Rattle.std.proofs.lemmas.Option.{slice_get-get_or}
use Rattle.call_types.specs.CallTable.{FieldKind, a_descriptor, a_position, a_count, a_name, a_payload, some_flags, a_whence, Values, parts}
use Rattle.call_types.specs.declared.call.Call.{Call}
use Rattle.call_types.specs.declared.act.ScriptAct.TheVariants as asked
use Rattle.call_types.specs.declared.act.Act.{Act}
use Rattle.call_types.specs.declared.act.Act.TheVariants as acts
use Rattle.call_types.specs.declared.act.Record.{Record}
use Rattle.call_types.specs.declared.outcome.Outcome.{Outcome}
use Rattle.script_text.specs.ReadingCalls.{reading}
use Rattle.script_text.specs.ReadingResults.{IsReadAs}
use Rattle.script_text.specs.Spellings.{SpellsPairs, SpellsDigits, SpellsRepeated, SpellsFields}
use Rattle.script_text.specs.Lines.{hex_pair, one_byte, data_text, data_word, fields_text, call_text, process_word, actor_word, act_text, outcome_text, record_line}
use Rattle.script_text.specs.Proved.Copied.{has_star, is_star, EndsAsWritten, FieldsAsWritten, IsAsWritten, copied_line}
use Rattle.script_text.proofs.Names.{half}
use Rattle.script_text.proofs.Repeated.{many_same}
use Rattle.script_text.proofs.ShortNumbers.{two_digits}
use Rattle.script_text.proofs.DataLaws.{pairs_again}
use Rattle.script_text.proofs.CallLaws.{reading_takes}

-- ---- data at the end of a line

pairs_spelled : (bytes text : List ℕ) → SpellsPairs bytes text → text ≡ flat_map hex_pair bytes
pairs_spelled [] text e = e
pairs_spelled (b ∷ bs) text p = p.2 ∙ ap (λ (rest : List ℕ). hex_pair b ++ rest) (pairs_spelled bs p.0 p.3)

-- data that is not written by a count is spelled by digits as it is written
digits_spelled : (bytes text : List ℕ) → one_byte bytes ≡ None → SpellsDigits bytes text → text ≡ data_word bytes
digits_spelled bytes text none p = p.2 ∙ ap (λ (rest : List ℕ). 120 ∷ rest) (pairs_spelled bytes p.0 p.3) ∙ sym (ap (λ (o : Option ℕ). data_text o bytes) none)

-- and much data by a count
count_spelled : (bytes text : List ℕ) → 16 < length bytes → SpellsRepeated bytes text → text ≡ data_word bytes
count_spelled bytes text many p =
    let count : length bytes ≡ p.1 = ap length p.4 ∙ length-replicate p.1 p.0 in
    p.5 ∙ sym (ap data_word p.4 ∙ many_same p.1 p.0 (omega (arith, count, many)))

-- much data that is not written by a count
pub many_end : (line bytes : List ℕ) → 16 < length bytes → one_byte bytes ≡ None → EndsAsWritten line bytes
many_end line bytes many none = λ front word is spells. elim spells [
  | inl p ↦ digits_spelled bytes word none p
  | inr p ↦ count_spelled bytes word many p
]

-- much data in a line that has no room for its digits
few_places : (line bytes : List ℕ) → 16 < length bytes → length line ≤ 2 * length bytes → EndsAsWritten line bytes
few_places line bytes many short = λ front word is spells. elim spells [
  | inl p ↦ absurd (omega (arith, half p.0 bytes (pairs_again bytes p.0 p.3), ap length p.2, ap length is, length-append front word))
  | inr p ↦ count_spelled bytes word many p
]

pub counted_end : (line : List ℕ) (count byte : ℕ) → 16 < count → length line ≤ 2 * count → EndsAsWritten line (replicate count byte)
counted_end line count byte many short = few_places line (replicate count byte) (omega (arith, length-replicate count byte))
    (omega (arith, length-replicate count byte))

few_bytes : (bytes : List ℕ) → length bytes ≤ 16 → one_byte bytes ≡ None
few_bytes [] few = refl
few_bytes (b ∷ bs) few = rw (le-ltb 16 (length (b ∷ bs)) few) refl

star_seen : (front rest : List ℕ) → has_star (length rest + 1) (front ++ (42 ∷ rest)) ≡ true
star_seen front rest =
    let line : List ℕ = front ++ (42 ∷ rest) in
    let long : length line ≡ length front + (length rest + 1) = omega (arith, length-append front (42 ∷ rest)) in
    let at : length line - (length rest + 1) ≡ length front = omega (arith, long) in
    ap is_star (ap (slice_get line) at ∙ slice_get-get_or line (length front) 0 (omega (arith, long)) ∙
    ap (λ (c : ℕ). Some c) (get_or-append_seam front 42 rest 0))

-- a * before one or two digits is seen
star_before : (line front : List ℕ) (count : ℕ) → line ≡ front ++ (42 ∷ decimal count) → count ≤ 16 → has_star 2 line ≡ false → has_star 3 line ≡ false → ⊥
star_before line front count is few second third = elim (cases_lt count 10) [
  | inl one ↦
      let seen : has_star 2 line ≡ true = ap (has_star 2) (is ∙ ap (λ (ds : List ℕ). front ++ (42 ∷ ds)) (decimal_digit count one)) ∙
      star_seen front ((48 + count) ∷ []) in
      absurd (let both : true ≡ false = sym seen ∙ second in cc)
  | inr more ↦
      let seen : has_star 3 line ≡ true =
      ap (has_star 3) (is ∙ ap (λ (ds : List ℕ). front ++ (42 ∷ ds)) (two_digits count more (omega (arith, few)))) ∙
      star_seen front ((48 + count / 10) ∷ (48 + count % 10) ∷ []) in
      absurd (let both : true ≡ false = sym seen ∙ third in cc)
]

either : (a b : Bool) → (a || b) ≡ false → (a ≡ false) × (b ≡ false)
either true b none = absurd cc
either false b none = (refl, none)

-- a few bytes in a line that ends in no small count
pub few_end : (line bytes : List ℕ) → length bytes ≤ 16 → (has_star 2 line || has_star 3 line) ≡ false → EndsAsWritten line bytes
few_end line bytes few none = λ front word is spells. elim spells [
  | inl p ↦ digits_spelled bytes word (few_bytes bytes few) p
  | inr p ↦
      let stars = either (has_star 2 line) (has_star 3 line) none in
      let count : length bytes ≡ p.1 = ap length p.4 ∙ length-replicate p.1 p.0 in
      absurd
      (star_before line (front ++ hex_pair p.0) p.1 (is ∙ ap (λ (w : List ℕ). front ++ w) p.5 ∙ sym (append_assoc front (hex_pair p.0) (42 ∷ decimal p.1)))
      (omega (arith, count, few)) stars.0 stars.1)
]

-- ---- lines

-- one field more
more : (word rest text own others : List ℕ) → text ≡ 32 ∷ (word ++ rest) → word ≡ own → rest ≡ others → text ≡ 32 ∷ (own ++ others)
more word rest text own others e w r = e ∙ ap (λ (x : List ℕ). 32 ∷ (x ++ rest)) w ∙ ap (λ (x : List ℕ). 32 ∷ (own ++ x)) r

-- what is before the next fields
onward : (line front text word rest : List ℕ) → line ≡ front ++ text → text ≡ 32 ∷ (word ++ rest) → line ≡ (front ++ (32 ∷ word)) ++ rest
onward line front text word rest is e = is ∙ ap (λ (x : List ℕ). front ++ x) e ∙ sym (append_assoc front (32 ∷ word) rest)

fields_written : (ks : List FieldKind) (vs : Values ks) (line front text : List ℕ) → line ≡ front ++ text → FieldsAsWritten line ks vs →
    SpellsFields ks vs text → text ≡ fields_text ks vs
fields_written [] vs line front text is h s = s
fields_written (a_descriptor ∷ ks) vs line front text is h s =
    more s.0 s.1 text _ _ s.3 s.2.0 (fields_written ks vs.1 line (front ++ (32 ∷ s.0)) s.1 (onward line front text s.0 s.1 is s.3) h s.4)
fields_written (a_position ∷ ks) vs line front text is h s =
    more s.0 s.1 text _ _ s.3 s.2.0 (fields_written ks vs.1 line (front ++ (32 ∷ s.0)) s.1 (onward line front text s.0 s.1 is s.3) h s.4)
fields_written (a_count ∷ ks) vs line front text is h s =
    more s.0 s.1 text _ _ s.3 s.2.0 (fields_written ks vs.1 line (front ++ (32 ∷ s.0)) s.1 (onward line front text s.0 s.1 is s.3) h s.4)
fields_written (a_name ∷ ks) vs line front text is h s = absurd h
fields_written (a_payload ∷ []) vs line front text is h s =
    more s.0 s.1 text _ _ s.3 (h (front ++ (32 ∷ [])) s.0 (onward line front text s.0 s.1 is s.3 ∙ ap (λ (x : List ℕ). (front ++ (32 ∷ s.0)) ++ x) s.4 ∙
    append-nil (front ++ (32 ∷ s.0)) ∙ sym (append_assoc front (32 ∷ []) s.0)) s.2) s.4
fields_written (a_payload ∷ k ∷ ks) vs line front text is h s = absurd h
fields_written (some_flags ∷ ks) vs line front text is h s =
    more s.0 s.1 text _ _ s.3 s.2.0 (fields_written ks vs.1 line (front ++ (32 ∷ s.0)) s.1 (onward line front text s.0 s.1 is s.3) h s.4)
fields_written (a_whence ∷ ks) vs line front text is h s =
    more s.0 s.1 text _ _ s.3 s.2 (fields_written ks vs.1 line (front ++ (32 ∷ s.0)) s.1 (onward line front text s.0 s.1 is s.3) h s.4)

-- a line that ends in what a call's fields are spelled as
call_written : (process : ℕ) (call : Call) (line : List ℕ) → FieldsAsWritten line (parts call).entry.fields (parts call).values →
    reading line ≡ Ok (asked.Call process call) → line ≡ process_word process ++ (32 ∷ call_text call)
unfolding call_text
call_written process call line h e =
    let s = reading_takes line (asked.Call process call) e in
    let word : List ℕ = (parts call).entry.word in
    let front : List ℕ = process_word process ++ (32 ∷ word) in
    let is : line ≡ front ++ s.2.0 = s.3 ∙ ap (λ (text : List ℕ). process_word process ++ (32 ∷ text)) s.2.2 ∙
    sym (append_assoc (process_word process) (32 ∷ word) s.2.0) in
    let fields = fields_written (parts call).entry.fields (parts call).values line front s.2.0 is h s.2.1 in
    s.3 ∙ ap (λ (text : List ℕ). process_word process ++ (32 ∷ text)) (s.2.2 ∙ ap (λ (x : List ℕ). word ++ x) fields)

-- the line of an act, in which it is written after its process
act_written : (line : List ℕ) (actor : ℕ) (act : Act) → IsAsWritten line act → IsReadAs line actor act → line ≡ process_word actor ++ (32 ∷ act_text act)
act_written line actor (acts.Call call) h e = call_written actor call line h e
act_written line actor acts.Attach h e = (reading_takes line (asked.Attach actor) e).1
act_written line actor acts.Resume h e = (reading_takes line (asked.Resume actor) e).1
act_written line actor acts.Exit h e = (reading_takes line (asked.Exit actor) e).1
act_written line actor acts.Join h e = absurd h
act_written line actor acts.CloseRun h e = absurd h

actor_written : (line : List ℕ) (actor : ℕ) (act : Act) → IsAsWritten line act → actor_word actor act ≡ process_word actor
actor_written line actor acts.CloseRun h = absurd h
actor_written line actor other h = refl

joined : (front actor act : List ℕ) → front ++ (actor ++ (32 ∷ act)) ≡ front ++ actor ++ codes " " ++ act
joined front actor act = sym (append_assoc (front ++ actor) (codes " ") act ∙ append_assoc front actor (32 ∷ act))

-- the line of a record is its place, the line that asked for it, and the outcome
pub copied : (place : ℕ) (line : List ℕ) (r : Record) → IsAsWritten line r.act → IsReadAs line r.actor r.act →
    copied_line place line r.outcome ≡ record_line place r
copied place line r h e =
    let front : List ℕ = decimal place ++ codes " " in
    let is : front ++ line ≡ front ++ actor_word r.actor r.act ++ codes " " ++ act_text r.act =
    ap (λ (l : List ℕ). front ++ l) (act_written line r.actor r.act h e ∙ ap (λ (actor : List ℕ). actor ++ (32 ∷ act_text r.act))
    (sym (actor_written line r.actor r.act h)))
    ∙ joined front (actor_word r.actor r.act) (act_text r.act) in
    ap (λ (l : List ℕ). l ++ codes " = " ++ outcome_text r.outcome ++ codes "\n") is
