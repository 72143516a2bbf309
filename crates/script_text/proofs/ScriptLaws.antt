-- A script is read from its spellings alone.
use Rattle.std.proofs.Common.{◌≡◌, ℕ, ◌+◌, ◌≤◌, ◌<◌, eqb, ltb, List, [], ◌∷◌, ◌++◌, length, Result, Ok, Err, refl, sym, ap, subst, ◌∙◌, inl, inr}
use Rattle.std.specs.List.{slice_split}
use Rattle.std.proofs.lemmas.Bool.{le-ltb, lt-ltb, cond-true, cond-false, cases_lt}
use Rattle.call_types.specs.declared.act.ScriptAct.{ScriptAct}
use Rattle.script_text.specs.declared.fault.ScriptFault.{ScriptFault}
use Rattle.script_text.specs.declared.fault.ScriptFault.TheVariants as faults
use Rattle.script_text.specs.declared.script.TheConstants.{SCRIPT_MAX}
use Rattle.script_text.specs.Reading.{◌>>=◌, line_feed}
use Rattle.script_text.specs.ReadingCalls.{BadColumn, reading}
use Rattle.script_text.specs.ReadingScripts.{numbered, line_acts, lines_acts, followed, script_acts, script}
use Rattle.script_text.specs.Spellings.{SpellsLine, SpellsLines, SpellsScript}
use Rattle.script_text.proofs.WordLaws.{ok_is, bind_ok}
use Rattle.script_text.proofs.CallLaws.{reading_takes, reading_again}

followed_parts : (front acts : List ScriptAct) (read : Result (List ScriptAct) ScriptFault) → followed front read ≡ Ok acts →
    (rest : List ScriptAct) × (read ≡ Ok rest) × (front ++ rest ≡ acts)
followed_parts front acts (Ok rest) e = (rest, refl, ok_is (front ++ rest) acts e)
followed_parts front acts (Err d) e = absurd cc

numbered_takes : (n : ℕ) (read : Result ScriptAct BadColumn) (acts : List ScriptAct) → numbered n read ≡ Ok acts →
    (act : ScriptAct) × (read ≡ Ok act) × (act ∷ [] ≡ acts)
numbered_takes n (Ok act) acts e = (act, refl, ok_is (act ∷ []) acts e)
numbered_takes n (Err bad) acts e = absurd cc

line_takes : (n : ℕ) (line : List ℕ) (acts rest : List ScriptAct) → line_acts n line ≡ Ok acts → SpellsLine (acts ++ rest) rest line
line_takes n [] acts rest e = ap (λ (a : List ScriptAct). a ++ rest) (sym (ok_is [] acts e))
line_takes n (c ∷ cs) acts rest e =
    let one = numbered_takes n (reading (c ∷ cs)) acts e in
    (one.0, ap (λ (a : List ScriptAct). a ++ rest) (sym one.2), reading_takes (c ∷ cs) one.0 one.1)

lines_takes : (n : ℕ) (lines : List (List ℕ)) (acts : List ScriptAct) → lines_acts n lines ≡ Ok acts → SpellsLines acts lines
lines_takes n [] acts e = sym (ok_is [] acts e)
lines_takes n (line ∷ lines) acts e =
    let first = bind_ok (line_acts n line) (λ found. followed found (lines_acts (n + 1) lines)) acts e in
    let others = followed_parts first.0 acts (lines_acts (n + 1) lines) first.2 in (
      others.0,
      subst (λ (a : List ScriptAct). SpellsLine a others.0 line) others.2 (line_takes n line first.0 others.0 first.1),
      lines_takes (n + 1) lines others.0 others.1,
    )

line_again : (n : ℕ) (line : List ℕ) (acts rest : List ScriptAct) (others : Result (List ScriptAct) ScriptFault) → SpellsLine acts rest line →
    others ≡ Ok rest → (line_acts n line >>= λ found. followed found others) ≡ Ok acts
line_again n [] acts rest others s e = ap (followed []) e ∙ ap (λ (a : List ScriptAct). Ok a) (sym s)
line_again n (c ∷ cs) acts rest others s e =
    ap (λ (r : Result ScriptAct BadColumn). numbered n r >>= λ found. followed found others) (reading_again (c ∷ cs) s.0 s.2)
    ∙ ap (followed (s.0 ∷ [])) e ∙ ap (λ (a : List ScriptAct). Ok a) (sym s.1)

lines_again : (n : ℕ) (lines : List (List ℕ)) (acts : List ScriptAct) → SpellsLines acts lines → lines_acts n lines ≡ Ok acts
lines_again n [] acts s = ap (λ (a : List ScriptAct). Ok a) (sym s)
lines_again n (line ∷ lines) acts s = line_again n line acts s.0 (lines_acts (n + 1) lines) s.1 (lines_again (n + 1) lines s.0 s.2)

-- a script that is not too long is its lines
pub within : (text : List ℕ) → length text ≤ SCRIPT_MAX → script text ≡ script_acts text
within text short = cond-false (ltb SCRIPT_MAX (length text)) (Err faults.TooLong) (script_acts text) (le-ltb _ _ short)

-- one that is too long has that fault
pub beyond : (text : List ℕ) → SCRIPT_MAX < length text → script text ≡ Err faults.TooLong
beyond text long = cond-true (ltb SCRIPT_MAX (length text)) (Err faults.TooLong) (script_acts text) (lt-ltb _ _ long)

pub script_again : (text : List ℕ) (acts : List ScriptAct) → SpellsScript acts text → script text ≡ Ok acts
script_again text acts s =
    within text s.0
    ∙ lines_again 1 (slice_split (λ c. eqb c line_feed) text) acts s.1

pub script_takes : (text : List ℕ) (acts : List ScriptAct) → script text ≡ Ok acts → SpellsScript acts text
script_takes text acts e =
    elim (cases_lt SCRIPT_MAX (length text)) [
      | inl long ↦ absurd (let fault : script text ≡ Err faults.TooLong = beyond text long in cc)
      | inr short ↦ (short, lines_takes 1 (slice_split (λ c. eqb c line_feed) text) acts (sym (within text short) ∙ e))
    ]
