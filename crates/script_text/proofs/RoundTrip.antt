-- What is written is a spelling, so it is read again.
use Rattle.std.proofs.Common.{◌≡◌, ℕ, ◌^◌, ◌<◌, List, [], ◌∷◌, ◌++◌, Ok, refl}
use Rattle.std.specs.Prelude.{codes}
use Rattle.std.proofs.lemmas.List.{append_assoc}
use Rattle.call_types.specs.CallTable.{FieldKind, Values, parts}
use Rattle.call_types.specs.declared.call.Call.{Call}
use Rattle.call_types.specs.declared.act.ScriptAct.{ScriptAct}
use Rattle.call_types.specs.declared.act.ScriptAct.TheVariants as acts
use Rattle.call_types.specs.Ranges.{FieldsFit}
use Rattle.script_text.specs.ReadingCalls.{reading}
use Rattle.script_text.specs.Lines.{field_word, fields_text, call_text, process_word, script_line}
use Rattle.script_text.specs.Spellings.{SpellsFields, SpellsCall}
use Rattle.script_text.specs.Proved.Scripts.{IsScriptCall, IsScriptAct}
use Rattle.script_text.proofs.FieldKinds.{value_written}
use Rattle.script_text.proofs.CallLaws.{reading_again}

fields_written : (ks : List FieldKind) (vs : Values ks) → FieldsFit ks vs → SpellsFields ks vs (fields_text ks vs)
fields_written [] vs h = refl
fields_written (k ∷ ks) vs h = (field_word k vs.0, fields_text ks vs.1, value_written k vs.0 h.0, refl, fields_written ks vs.1 h.1)

call_written : (call : Call) → IsScriptCall call → SpellsCall call (call_text call)
unfolding call_text
call_written call h = (fields_text (parts call).entry.fields (parts call).values, fields_written (parts call).entry.fields (parts call).values h, refl)

-- a call that is written after its process is read again
pub read_back : (process : ℕ) (call : Call) → process < 2 ^ 32 → IsScriptCall call → reading (process_word process ++ codes " " ++ call_text call) ≡ Ok
    (acts.Call process call)
read_back process call h k =
    reading_again (process_word process ++ codes " " ++ call_text call) (acts.Call process call)
    (call_text call, h, call_written call k, append_assoc (process_word process) (codes " ") (call_text call))

-- an act that is written as a line of a script is read again
pub act_read_back : (act : ScriptAct) → IsScriptAct act → reading (script_line act) ≡ Ok act
act_read_back acts.Join h = refl
act_read_back (acts.Attach process) h = reading_again (script_line (acts.Attach process)) (acts.Attach process)
    (h, append_assoc (process_word process) (codes " ") (codes "attach"))
act_read_back (acts.Call process call) h = read_back process call h.0 h.1
act_read_back (acts.Resume process) h = reading_again (script_line (acts.Resume process)) (acts.Resume process)
    (h, append_assoc (process_word process) (codes " ") (codes "resume"))
act_read_back (acts.Exit process) h = reading_again (script_line (acts.Exit process)) (acts.Exit process)
    (h, append_assoc (process_word process) (codes " ") (codes "exit"))
act_read_back acts.CloseRun h = refl
