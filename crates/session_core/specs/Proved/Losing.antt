-- What is told when the connection of a process is lost (own).
use Rattle.std.specs.Prelude.{◌≡◌, ℕ, Bool, true, false, Option, None, Some}
use Rattle.system_lock.specs.System.{MarkState}
use Rattle.session_core.specs.Stages.{Standing}
use Rattle.session_core.specs.declared.stage.Stage.{Stage as StageOf}
use Rattle.session_core.specs.declared.stage.Stage.TheVariants as stage
use Rattle.session_core.specs.declared.stage.Standing.TheVariants as standing

-- where there is a process, something shows that it was told of just this one that its connection is lost
abbrev pub IsToldOf : (MarkState → ℕ → Type 0) → Option ℕ → Option MarkState → Type 0
IsToldOf marks None told = told ≡ None
IsToldOf marks (Some process) None = ⊥
IsToldOf marks (Some process) (Some mark) = marks mark process

-- whether no process is opened yet
abbrev pub is_opening : {S A : Type 0} → StageOf S A → Bool
is_opening (stage.Opening admission) = true
is_opening (stage.Ready seat) = false

-- the process of a session of which a request may be taken up, if there is one
abbrev pub ready_process : Standing → Option ℕ
ready_process (standing.Ready (stage.Ready seat)) = Some seat.pid
ready_process other = None
