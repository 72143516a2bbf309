-- How many threads of a run could not be started (own).
use Rattle.std.specs.Prelude.{ℕ, List, [], ◌∷◌, Option, None, Some}
use Rattle.logged_streams.specs.Streams.{one_more}
use Rattle.session_core.specs.Served.{failures_after}
use Rattle.session_core.specs.Starting.{added}
use Rattle.run_core.specs.Run.{ReportedSession}
use Rattle.run_core.specs.declared.report.RunFault.{RunFault}
use Rattle.run_core.specs.declared.report.RunFault.TheVariants as fault

-- how many it were, with those of the starters of these sessions, which had none at first: one for each session that has no thread
abbrev pub failures_with : List ReportedSession → ℕ → ℕ
failures_with [] failures = failures
failures_with (s ∷ ss) failures = failures_with ss (added failures (failures_after s.end_is 0))

-- how many it were, where so many were before and the run gives no report for this: one more where a thread of its own was wanting
abbrev pub failures_by : RunFault → ℕ → ℕ
failures_by fault.NoThread failures = one_more failures
failures_by other failures = failures

-- the sessions that a run without a report left, if any began
abbrev pub left_sessions : Option (List ReportedSession) → List ReportedSession
left_sessions None = []
left_sessions (Some sessions) = sessions
