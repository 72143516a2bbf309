-- What the starter of a run has counted.
use Rattle.std.proofs.Common.{◌≡◌, ℕ, List, [], ◌∷◌, ◌++◌, Some, length, refl, sym, ap, subst, ◌∙◌}
use Rattle.session_core.specs.Served.{failures_after}
use Rattle.session_core.specs.Starting.{added}
use Rattle.run_core.specs.Run.{ReportedSession}
use Rattle.run_core.specs.Starters.{failures_by, failures_with}
use Rattle.run_core.specs.Unreported.{IsNoWant}
use Rattle.run_core.specs.Wants.{fault_of_want}
use Rattle.run_core.specs.Proved.Starting.{failures_for}
use Rattle.run_core.specs.declared.report.RunFault.{RunFault}
use Rattle.run_core.specs.declared.report.RunFault.TheVariants as fault
use Rattle.run_core.specs.declared.sessions.Want.{Want}
use Rattle.run_core.specs.declared.sessions.Want.TheVariants as want

-- no session was counted
pub none_counted : (sessions : List ReportedSession) (n : ℕ) → length sessions ≡ 0 → n ≡ failures_with sessions n
none_counted [] n none = refl
none_counted (s ∷ sessions) n none = absurd cc

-- one session more
pub failures_more : (sessions : List ReportedSession) (s : ReportedSession) (n : ℕ) → failures_with (sessions ++ s ∷ []) n ≡ added (failures_with sessions n)
    (failures_after s.end_is 0)
failures_more [] s n = refl
failures_more (one ∷ sessions) s n = failures_more sessions s (added n (failures_after one.end_is 0))

-- the same, where so many were counted so far and then those of the session's own starter
pub absorbed : (sessions new_sessions : List ReportedSession) (s : ReportedSession) (before now own new : ℕ)
    → now ≡ failures_with sessions before → new ≡ added now own → own ≡ failures_after s.end_is 0 → new_sessions ≡ sessions ++ s ∷ []
    → new ≡ failures_with new_sessions before
absorbed sessions new_sessions s before now own new so is counted more =
    rw more (is ∙ (ap (λ (n : ℕ). added n own) so ∙ (ap (λ (n : ℕ). added (failures_with sessions before) n) counted ∙ sym (failures_more sessions s before))))

-- what was wanting for a session, and the fault of its run
pub failures_wanted : (lacked : Want) (n : ℕ) → failures_for (Some lacked) n ≡ failures_by (fault_of_want lacked) n
failures_wanted want.Memory n = refl
failures_wanted want.Thread n = refl

-- a fault that is no want of a thread
pub no_more_by : (why : RunFault) (n : ℕ) → (why ≡ fault.NoThread → ⊥) → n ≡ failures_by why n
no_more_by fault.NoMemory n other = refl
no_more_by fault.NoThread n other = absurd (other refl)
no_more_by fault.Missing n other = refl
no_more_by (fault.Disagree place) n other = refl

-- the fault of what was wanting for a session is a want
pub is_a_want : (lacked : Want) (why : RunFault) → why ≡ fault_of_want lacked → IsNoWant why → ⊥
is_a_want want.Memory why is none = subst IsNoWant is none
is_a_want want.Thread why is none = subst IsNoWant is none
