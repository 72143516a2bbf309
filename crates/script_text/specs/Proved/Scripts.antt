-- What a script gives next, and the laws of its spellings (own).
use Rattle.std.specs.Prelude.{◌≡◌, List, Result, Ok, Err, ◌<◌, ◌^◌}
use Rattle.call_types.specs.declared.act.ScriptAct.{ScriptAct}
use Rattle.script_text.specs.declared.fault.ScriptFault.{ScriptFault}
use Rattle.script_text.specs.ReadingResults.{ScriptFails}
use Rattle.call_types.specs.declared.call.Call.{Call}
use Rattle.call_types.specs.CallTable.{parts}
use Rattle.call_types.specs.Ranges.{FieldsFit}
use Rattle.call_types.specs.declared.act.ScriptAct.TheVariants as acts

-- a script gives what reading gives, seen by view, unless memory ran out
abbrev pub ScriptGives : {X : Type 0} → (X → List ScriptAct) → Result X ScriptFault → Result (List ScriptAct) ScriptFault → Type 0
ScriptGives view (Ok acts) read = read ≡ Ok (view acts)
ScriptGives view (Err fault) read = ScriptFails fault read

-- a call that a script may have, with its fields in range
abbrev pub IsScriptCall : Call → Type 0
IsScriptCall call = FieldsFit (parts call).entry.fields (parts call).values

-- an act that a script may have, with its process and its call's fields in range
abbrev pub IsScriptAct : ScriptAct → Type 0
IsScriptAct acts.Join = Unit {0}
IsScriptAct (acts.Attach process) = process < 2 ^ 32
IsScriptAct (acts.Call process call) = (process < 2 ^ 32) × IsScriptCall call
IsScriptAct (acts.Resume process) = process < 2 ^ 32
IsScriptAct (acts.Exit process) = process < 2 ^ 32
IsScriptAct acts.CloseRun = Unit {0}
