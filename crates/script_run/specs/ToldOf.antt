-- A record that is told of an act of a script is about it (own).
use Rattle.std.specs.Prelude.{◌≡◌}
use Rattle.call_types.specs.declared.act.Act.TheVariants as act
use Rattle.call_types.specs.declared.act.Record.{Record}
use Rattle.call_types.specs.declared.act.ScriptAct.{ScriptAct}
use Rattle.call_types.specs.declared.act.ScriptAct.TheVariants as script
use Rattle.script_run.specs.declared.told.ScriptAnswer.{ScriptAnswer}
use Rattle.script_run.specs.declared.told.ScriptAnswer.TheVariants.{Recorded, Closed, Still, Refused}

-- a record is about an act of a script, and its actor is the process that the act names
abbrev pub IsRecordOf : ScriptAct → Record → Type 0
IsRecordOf script.Join r = r.act ≡ act.Join
IsRecordOf (script.Attach process) r = (r.actor ≡ process) × (r.act ≡ act.Attach)
IsRecordOf (script.Call process call) r = (r.actor ≡ process) × (r.act ≡ act.Call call)
IsRecordOf (script.Resume process) r = (r.actor ≡ process) × (r.act ≡ act.Resume)
IsRecordOf (script.Exit process) r = (r.actor ≡ process) × (r.act ≡ act.Exit)
IsRecordOf script.CloseRun r = r.act ≡ act.CloseRun

-- the record that is told of an act, if it is told as recorded, is about it
abbrev pub IsToldOf : ScriptAct → ScriptAnswer → Type 0
IsToldOf a (Recorded told) = IsRecordOf a told.record_is
IsToldOf a (Closed records) = Unit {0}
IsToldOf a (Still actor still) = Unit {0}
IsToldOf a (Refused actor refused refusal) = Unit {0}
