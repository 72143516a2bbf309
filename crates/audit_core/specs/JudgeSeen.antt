-- What contracts see of a judge (own).
use Rattle.audit_core.specs.JudgeState.{JudgeState}
use Rattle.audit_core.specs.declared.judge.Judge.TheInside.{Inside}

-- what contracts see of a judge
abbrev pub state_of : Inside → JudgeState
state_of j = record { told = j.told; world = j.state.machine.world; place = j.place; ending = j.ending }
