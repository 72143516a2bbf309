-- How the input of a replay is read (own).
use Rattle.std.specs.Prelude.{◌≡◌, ℕ, ◌⊎◌}
use Rattle.logged_streams.specs.Reading.{more_calls}
use Rattle.logged_streams.specs.Streams.{IsReadNoMore, LogState}
use Rattle.job_core.specs.declared.job_end.JobEnd.{JobEnd}
use Rattle.job_core.specs.declared.job_end.JobEnd.TheVariants as ended

-- the reader is read no more, or memory ran out
abbrev pub FailsToRead : ℕ → LogState → LogState → JobEnd → Type 0
FailsToRead most from to end = ((end ≡ ended.CannotRead) × IsReadNoMore (more_calls most from) to) ⊎ ((end ≡ ended.NoMemory) × (to.failed ≡ from.failed))
