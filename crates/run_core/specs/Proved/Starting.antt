-- How many threads could not be started for the sessions of a run (own).
use Rattle.std.specs.Prelude.{ℕ, Option, None, Some}
use Rattle.logged_streams.specs.Streams.{one_more}
use Rattle.run_core.specs.declared.sessions.Shortage.{Shortage}
use Rattle.run_core.specs.declared.sessions.Shortage.TheVariants as shortage
use Rattle.run_core.specs.declared.sessions.Want.{Want}
use Rattle.run_core.specs.declared.sessions.Want.TheVariants as want

-- so many, where this was wanting for a session, or nothing was
abbrev pub failures_for : Option Want → ℕ → ℕ
failures_for None failures = failures
failures_for (Some want.Memory) failures = failures
failures_for (Some want.Thread) failures = one_more failures

-- so many, where no session was started for this
abbrev pub failures_at : Shortage → ℕ → ℕ
failures_at shortage.NoConnection failures = failures
failures_at (shortage.Unserved lacked) failures = failures_for (Some lacked) failures
