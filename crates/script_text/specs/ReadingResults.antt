-- What a reader returns, where memory may run out (own).
use Rattle.std.specs.Prelude.{◌≡◌, ◌≤◌, ℕ, List, [], ◌∷◌, length, Option, Some, None, Result, Ok, Err}
use Rattle.call_types.specs.declared.act.ScriptAct.{ScriptAct}
use Rattle.call_types.specs.declared.act.ScriptAct.TheVariants as asked
use Rattle.call_types.specs.declared.act.Act.{Act}
use Rattle.call_types.specs.declared.act.Act.TheVariants as acts
use Rattle.script_text.specs.ReadingCalls.{BadColumn, reading}
use Rattle.script_text.specs.ReadingScripts.{script, followed, Rest}
use Rattle.script_text.specs.declared.script.TheConstants.{SCRIPT_MAX}
use Rattle.script_text.specs.declared.fault.ReadFault.{ReadFault}
use Rattle.script_text.specs.declared.fault.ReadFault.TheVariants as faults
use Rattle.script_text.specs.declared.fault.ScriptFault.{ScriptFault}
use Rattle.script_text.specs.declared.fault.ScriptFault.TheVariants as scripts

-- a line gives what reading gives, unless memory ran out
abbrev pub LineGives : Result ScriptAct ReadFault → Result ScriptAct BadColumn → Type 0
LineGives (Ok act) read = read ≡ Ok act
LineGives (Err (faults.BadLine column expected)) read = read ≡ Err (record { column = column; expected = expected })
LineGives (Err faults.NoMemory) read = Unit {0}

-- a script fails as reading does, unless memory ran out
abbrev pub ScriptFails : ScriptFault → Result (List ScriptAct) ScriptFault → Type 0
ScriptFails scripts.NoMemory read = Unit {0}
ScriptFails (scripts.BadLine line column expected) read = read ≡ Err (scripts.BadLine line column expected)
ScriptFails scripts.TooLong read = read ≡ Err scripts.TooLong

-- a script is opened as what reading its text gives, which then is not too long; one that is too long is not opened, and that is the only fault
abbrev pub Opens : Result Rest ScriptFault → List ℕ → Type 0
Opens (Ok rest) text = (length text ≤ SCRIPT_MAX) × (rest.read ≡ script text)
Opens (Err fault) text = (fault ≡ scripts.TooLong) × (script text ≡ Err scripts.TooLong)

-- the next act stands before those that follow it, no act is left before or after, or the rest has the fault, unless memory ran out
abbrev pub NextGives : Result (List ScriptAct) ScriptFault → Result (List ScriptAct) ScriptFault → Result (Option ScriptAct) ScriptFault → Type 0
NextGives old new (Ok None) = (old ≡ Ok []) × (new ≡ Ok [])
NextGives old new (Ok (Some act)) = old ≡ followed (act ∷ []) new
NextGives old new (Err fault) = ScriptFails fault old

-- the next act was read from this line
abbrev pub NextIsFrom : List ℕ → Result (Option ScriptAct) ScriptFault → Type 0
NextIsFrom line (Ok None) = Unit {0}
NextIsFrom line (Ok (Some act)) = reading line ≡ Ok act
NextIsFrom line (Err fault) = Unit {0}

-- a line is read as this act of this process; of a join and of the closing, which no process makes, nothing is said
abbrev pub IsReadAs : List ℕ → ℕ → Act → Type 0
IsReadAs line actor acts.Join = Unit {0}
IsReadAs line actor acts.Attach = reading line ≡ Ok (asked.Attach actor)
IsReadAs line actor (acts.Call call) = reading line ≡ Ok (asked.Call actor call)
IsReadAs line actor acts.Resume = reading line ≡ Ok (asked.Resume actor)
IsReadAs line actor acts.Exit = reading line ≡ Ok (asked.Exit actor)
IsReadAs line actor acts.CloseRun = Unit {0}
