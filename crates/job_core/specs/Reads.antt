-- How often a job reads, and what its end says of that (own).
use Rattle.std.specs.Prelude.{◌≡◌, ◌≢◌, ℕ, ◌+◌, ◌≤◌, ◌⊎◌}
use Rattle.logged_streams.specs.Reading.{more_calls}
use Rattle.logged_streams.specs.Streams.{IsReadNoMore, LogState}
use Rattle.logged_streams.specs.declared.stream_log.TheConstants.{INTERRUPTIONS_MAX}
use Rattle.job_core.specs.declared.job_end.JobEnd.{JobEnd}
use Rattle.job_core.specs.declared.job_end.JobEnd.TheVariants as ended

-- a reader was read at most so often, and interrupted at most sixteen times in a row; it cannot be read only where it is read no more,
-- and at another end no read failed
pub record ReadsFew (most : ℕ) (from to : LogState) (end : JobEnd) : Type 0 where
  pub few : to.calls ≤ from.calls + most
  pub few_interrupted : to.interruptions ≤ INTERRUPTIONS_MAX
  pub met : ((end ≡ ended.CannotRead) × IsReadNoMore (more_calls most from) to) ⊎ ((end ≢ ended.CannotRead) × (to.failed ≡ from.failed))
