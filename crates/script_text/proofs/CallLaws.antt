-- An act is read from its spellings alone.
use Rattle.std.proofs.Common.{◌≡◌, ℕ, ◌^◌, ◌<◌, true, cond, List, [], ◌∷◌, ◌++◌, length, Option, Some, None, Result, Ok, Err, refl, sym, ap, subst, ◌∙◌, inl, inr}
use Rattle.std.specs.Prelude.{codes}
use Rattle.std.specs.Str.{bytes_eq}
use Rattle.std.specs.List.{AllByRecursion}
use Rattle.std.proofs.lemmas.List.{append-nil}
use Rattle.std.proofs.lemmas.Slice.Eq.{bytes_eq-Decides}
use Rattle.call_types.specs.declared.call.Call.{Call}
use Rattle.call_types.specs.declared.call.Call.TheVariants as calls
use Rattle.call_types.specs.declared.act.ScriptAct.{ScriptAct}
use Rattle.call_types.specs.declared.act.ScriptAct.TheVariants as acts
use Rattle.script_text.specs.declared.fault.Expected.{Expected}
use Rattle.script_text.specs.declared.fault.Expected.TheVariants as expect
use Rattle.script_text.specs.Reading.{◌>>=◌, BadWord, Unread, Word, cut, word_at, ended}
use Rattle.script_text.specs.ReadingNumbers.{process_of}
use Rattle.call_types.specs.CallTable.{Entry, Parts, parts, call_table}
use Rattle.call_types.specs.Proved.Made.{Parted, made}
use Rattle.script_text.proofs.CallParts.{all_parted, made_again}
use Rattle.script_text.specs.ReadingCalls.{entry_at, one_of, named_call, last_word, process_act, bare_act, act_of, act_at, with_column, reading}
use Rattle.script_text.specs.Lines.{process_word}
use Rattle.script_text.specs.Spellings.{SpellsFields, SpellsParts, SpellsCall, SpellsAct}
use Rattle.script_text.proofs.Numerals.{chosen}
use Rattle.script_text.proofs.WordLaws.{Unbroken, unbroken, tail, cut_joined, cut_again, done, ok_is, bind_ok, ended_takes, process_takes, process_again, process_unbroken}
use Rattle.script_text.proofs.FieldLaws.{fields_take, left_of, fields_again}

-- a call, spelled by its first word and what follows it
abbrev Spelled : Word → Call → Type 0
Spelled w call = SpellsCall call (w.text ++ tail w.after)

entry_takes : (e : Entry) (w : Word) (call : Call) → Parted e → bytes_eq w.text e.word ≡ true → entry_at e w.after ≡ Ok call → Spelled w call
entry_takes e w call p t r =
    let f = fields_take e.fields e.make w.after call r in
    subst (λ (c : Call). Spelled w c) f.is
    (subst (λ (q : Parts). SpellsParts q (w.text ++ tail w.after)) (sym (p f.values))
    (tail w.after, f.spelled, ap (λ (x : List ℕ). x ++ tail w.after) ((bytes_eq-Decides w.text e.word).0 t)))

one_of_takes : (es : List Entry) (w : Word) (call : Call) → AllByRecursion Parted es → one_of es w ≡ Ok call → Spelled w call
one_of_takes [] w call h r = absurd cc
one_of_takes (e ∷ es) w call h r =
    elim (chosen (bytes_eq w.text e.word) (entry_at e w.after) (one_of es w) (Ok call) r) [
      | inl is ↦ entry_takes e w call h.0 is.0 is.1
      | inr other ↦ one_of_takes es w call h.1 other.1
    ]

named_takes : (w : Word) (call : Call) → named_call w ≡ Ok call → Spelled w call
named_takes w call e = one_of_takes call_table w call all_parted e

word_takes : (expected : Expected) (left : Unread) (w : Word) → word_at expected left ≡ Ok w → left ≡ Some (w.text ++ tail w.after)
word_takes expected None w e = absurd cc
word_takes expected (Some bytes) w e =
    let is : record { text = (cut 32 bytes).0; remaining = length bytes; after = (cut 32 bytes).1 } ≡ w = ok_is _ w e in
    ap (λ (b : List ℕ). Some b) (cut_joined bytes ∙ ap (λ (v : Word). v.text ++ tail v.after) is)

-- the text of a word and of what follows it
abbrev text_from : Word → List ℕ
text_from w = w.text ++ tail w.after

last_takes : (word : List ℕ) (last act : ScriptAct) (w : Word) → bytes_eq w.text word ≡ true → last_word last w.after ≡ Ok act →
    (text_from w ≡ word) × (last ≡ act)
last_takes word last act w t e =
    let end = bind_ok (ended w.after) (λ end. Ok last) act e in (
      ap (λ (x : List ℕ). x ++ tail w.after) ((bytes_eq-Decides w.text word).0 t) ∙ ap (λ (l : Unread). word ++ tail l) (ended_takes w.after end.0 end.1) ∙
          append-nil word,
      ok_is last act end.2,
    )

call_act_takes : (process : ℕ) (w : Word) (act : ScriptAct) → process < 2 ^ 32 → (named_call w >>= λ call. Ok (acts.Call process call)) ≡ Ok act →
    SpellsAct act (process_word process ++ (32 ∷ text_from w))
call_act_takes process w act h e =
    let k = bind_ok (named_call w) (λ call. Ok (acts.Call process call)) act e in
    subst (λ (a : ScriptAct). SpellsAct a (process_word process ++ (32 ∷ text_from w))) (ok_is (acts.Call process k.0) act k.2)
    (text_from w, h, named_takes w k.0 k.1, refl)

-- a word that is the last of its line, or else what else is read
word_or_takes : (word : List ℕ) (last act : ScriptAct) (w : Word) (other : Result ScriptAct BadWord) (line : List ℕ → List ℕ) → SpellsAct last (line word)
    → (other ≡ Ok act → SpellsAct act (line (text_from w))) → cond (bytes_eq w.text word) (last_word last w.after) other ≡ Ok act →
    SpellsAct act (line (text_from w))
word_or_takes word last act w other line spelled rest e =
    elim (chosen (bytes_eq w.text word) (last_word last w.after) other (Ok act) e) [
      | inl is ↦
          let t = last_takes word last act w is.0 is.1 in
          subst (λ (a : ScriptAct). SpellsAct a (line (text_from w))) t.1 (subst (λ (text : List ℕ). SpellsAct last (line text)) (sym t.0) spelled)
      | inr past ↦ rest past.1
    ]

process_act_takes : (process : ℕ) (w : Word) (act : ScriptAct) → process < 2 ^ 32 → process_act process w ≡ Ok act →
    SpellsAct act (process_word process ++ (32 ∷ text_from w))
process_act_takes process w act h =
    let line : List ℕ → List ℕ = λ text. process_word process ++ (32 ∷ text) in
    let a_call : Result ScriptAct BadWord = named_call w >>= λ call. Ok (acts.Call process call) in
    let an_exit : Result ScriptAct BadWord = cond (bytes_eq w.text (codes "exit")) (last_word (acts.Exit process) w.after) a_call in
    let a_resume : Result ScriptAct BadWord = cond (bytes_eq w.text (codes "resume")) (last_word (acts.Resume process) w.after) an_exit in
    word_or_takes (codes "attach") (acts.Attach process) act w a_resume line (h, refl)
    (word_or_takes (codes "resume") (acts.Resume process) act w an_exit line (h, refl)
    (word_or_takes (codes "exit") (acts.Exit process) act w a_call line (h, refl) (call_act_takes process w act h)))

bare_act_takes : (w : Word) (act : ScriptAct) → bare_act w ≡ Ok act → SpellsAct act (text_from w)
bare_act_takes w act =
    let no_act : Result ScriptAct BadWord = Err (record { remaining = w.remaining; expected = expect.Actor }) in
    let a_closing : Result ScriptAct BadWord = cond (bytes_eq w.text (codes "close-run")) (last_word acts.CloseRun w.after) no_act in
    word_or_takes (codes "join") acts.Join act w a_closing (λ text. text) refl
    (word_or_takes (codes "close-run") acts.CloseRun act w no_act (λ text. text) refl (λ e. absurd cc))

act_of_takes : (o : Option ℕ) (w : Word) (act : ScriptAct) → process_of w.text ≡ o → act_of o w ≡ Ok act → SpellsAct act (text_from w)
act_of_takes None w act is e = bare_act_takes w act e
act_of_takes (Some process) w act is e =
    let spelled = process_takes w.text process is in
    let v = bind_ok (word_at expect.Act w.after) (λ word. process_act process word) act e in
    let line : text_from w ≡ process_word process ++ (32 ∷ text_from v.0) =
    ap (λ (t : List ℕ). t ++ tail w.after) spelled.0 ∙ ap (λ (l : Unread). process_word process ++ tail l) (word_takes expect.Act w.after v.0 v.1) in
    subst (SpellsAct act) (sym line) (process_act_takes process v.0 act spelled.1 v.2)

-- what is read is spelled so
pub act_takes : (line : List ℕ) (act : ScriptAct) → act_at (Some line) ≡ Ok act → SpellsAct act line
act_takes line act e =
    let w : Word = record { text = (cut 32 line).0; remaining = length line; after = (cut 32 line).1 } in
    subst (SpellsAct act) (sym (cut_joined line)) (act_of_takes (process_of w.text) w act refl e)

column_takes : (len : ℕ) (read : Result ScriptAct BadWord) (act : ScriptAct) → with_column len read ≡ Ok act → read ≡ Ok act
column_takes len (Ok a) act e = ap (done BadWord) (ok_is a act e)
column_takes len (Err bad) act e = absurd cc

-- what is read is spelled so
pub reading_takes : (line : List ℕ) (act : ScriptAct) → reading line ≡ Ok act → SpellsAct act line
reading_takes line act e = act_takes line act (column_takes (length line) (act_at (Some line)) act e)

-- ---- and what is spelled so is read

-- the act of a process, from the text after it
abbrev act_from : ℕ → List ℕ → Result ScriptAct BadWord
act_from process text = word_at expect.Act (Some text) >>= λ w. process_act process w

-- an entry is found by its word
abbrev Finds : Parts → Type 0
Finds p =
    (process remaining : ℕ) (left : Unread) → process_act process (record { text = p.entry.word; remaining = remaining; after = left }) ≡
    (entry_at p.entry left >>= λ call. Ok (acts.Call process call))

finds : (call : Call) → Finds (parts call) × Unbroken (parts call).entry.word
finds (calls.Close fd) = (λ process remaining left. refl, unbroken (codes "close") refl)
finds other = (λ process remaining left. refl, unbroken (parts other).entry.word refl)

parts_again : (process : ℕ) (p : Parts) (text : List ℕ) → Finds p → Unbroken p.entry.word → SpellsParts p text →
    act_from process text ≡ Ok (acts.Call process (made p.entry.fields p.entry.make p.values))
parts_again process p text finds one s =
    let left = left_of p.entry.fields p.values s.0 s.1 in
    let is : text ≡ p.entry.word ++ tail left.0 = s.2 ∙ ap (λ (r : List ℕ). p.entry.word ++ r) left.1 in
    ap (act_from process) is
    ∙ ap (λ (parts : List ℕ × Unread). process_act process (record { text = parts.0; remaining = length (p.entry.word ++ tail left.0); after = parts.1 }))
    (cut_again p.entry.word left.0 one)
    ∙ finds process (length (p.entry.word ++ tail left.0)) left.0
    ∙ ap (λ (r : Result Call BadWord). r >>= λ call. Ok (acts.Call process call))
    (fields_again p.entry.fields p.entry.make p.values left.0 (subst (SpellsFields p.entry.fields p.values) left.1 s.1))

call_again : (process : ℕ) (call : Call) (text : List ℕ) → SpellsCall call text → act_from process text ≡ Ok (acts.Call process call)
call_again process call text s = parts_again process (parts call) text (finds call).0 (finds call).1 s ∙ ap (λ (c : Call). done BadWord (acts.Call process c))
    (made_again call)

-- the act of a line that begins with a process
line_again : (process : ℕ) (line text : List ℕ) → process < 2 ^ 32 → line ≡ process_word process ++ (32 ∷ text) → act_at (Some line) ≡ act_from process text
line_again process line text h is =
    ap (λ (parts : List ℕ × Unread). act_of (process_of parts.0) (record { text = parts.0; remaining = length line; after = parts.1 }))
    (ap (cut 32) is ∙ cut_again (process_word process) (Some text) (process_unbroken process h))
    ∙ ap (λ (o : Option ℕ). act_of o (record { text = process_word process; remaining = length line; after = Some text })) (process_again process h)

-- what is spelled is read so
pub act_again : (act : ScriptAct) (line : List ℕ) → SpellsAct act line → act_at (Some line) ≡ Ok act
act_again acts.Join line e = ap (λ (l : List ℕ). act_at (Some l)) e
act_again (acts.Attach process) line p = line_again process line (codes "attach") p.0 p.1
act_again (acts.Call process call) line p = line_again process line p.0 p.1 p.3 ∙ call_again process call p.0 p.2
act_again (acts.Resume process) line p = line_again process line (codes "resume") p.0 p.1
act_again (acts.Exit process) line p = line_again process line (codes "exit") p.0 p.1
act_again acts.CloseRun line e = ap (λ (l : List ℕ). act_at (Some l)) e

pub reading_again : (line : List ℕ) (act : ScriptAct) → SpellsAct act line → reading line ≡ Ok act
reading_again line act s = ap (with_column (length line)) (act_again act line s)

-- a line on which reading fails spells no act
pub fails_on_none : (line : List ℕ) (bad : BadWord) (act : ScriptAct) → act_at (Some line) ≡ Err bad → SpellsAct act line → ⊥
fails_on_none line bad act e s = let both : done BadWord act ≡ Err bad = sym (act_again act line s) ∙ e in cc
