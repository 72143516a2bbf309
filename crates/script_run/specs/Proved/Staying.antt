-- Changes that leave who is here (own).
use Rattle.std.specs.Prelude.{◌≡◌, false}
use Rattle.posix_model.specs.declared.change.ProcessEdit.{ProcessEdit}
use Rattle.posix_model.specs.declared.change.ProcessEdit.TheVariants as on_process

-- an edit of processes leaves who is live and attached: it adds a child at most, or has a process wait or go on
abbrev pub LeavesHere : ProcessEdit → Type 0
LeavesHere on_process.Nothing = Unit {0}
LeavesHere (on_process.Add table attached) = attached ≡ false
LeavesHere (on_process.Park process parked) = Unit {0}
LeavesHere (on_process.Total process moved) = Unit {0}
LeavesHere (on_process.Unpark process) = Unit {0}
LeavesHere other = ⊥
