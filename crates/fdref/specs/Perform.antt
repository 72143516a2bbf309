-- What a job reads and writes, and what its end says (own).
use Rattle.std.specs.Prelude.{◌≡◌, ◌⊎◌, ℕ, List, Option, None, Some}
use Rattle.std.specs.String.{string_bytes}
use Rattle.logged_streams.specs.Streams.{LoggedWriterState}
use Rattle.job_core.specs.Audit.{AuditEnds}
use Rattle.job_core.specs.Migrate.{MigrateEnds, Outputs}
use Rattle.job_core.specs.Outcomes.{OutcomesEnd}
use Rattle.job_core.specs.Replay.{ReplayEnds}
use Rattle.call_types.specs.declared.limits.Limits.{Limits}
use Rattle.run_core.specs.Run.{IsBlank, Streams}
use Rattle.fdref.specs.Serve.{Reports, RunAsked, SinkState}
use Rattle.job_core.specs.Show.{ShowEnds}
use Rattle.command_line.specs.declared.job.Job.{Job}
use Rattle.command_line.specs.declared.job.Job.TheVariants as job
use Rattle.job_core.specs.declared.job_end.JobEnd.{JobEnd}
use Rattle.job_core.specs.declared.job_end.JobEnd.TheVariants as ended

-- a file that is read gives what it has, where that is known
abbrev pub Has : Option (List ℕ) → Option (List ℕ) → Type 0
Has None input = Unit {0}
Has (Some bytes) input = input ≡ Some bytes

-- for this reason the job ended so, and nothing was written
pub record IsUnserved (why : Type 0) (end_is : JobEnd) (old new : LoggedWriterState) (end : JobEnd) : Type 0 where
  pub reason : why
  pub is : end ≡ end_is
  pub same : new ≡ old

-- the sessions of the connections to come were served and reported, as many at most as were asked for and within these limits; the sink of
-- their trace held nothing before
pub record IsServed (coming : Option (List Streams)) (limits : Limits) (sessions : ℕ) (old new : LoggedWriterState) (end : JobEnd) : Type 0 where
  pub asked : RunAsked
  pub coming_is : asked.coming ≡ coming
  pub limits_are : asked.limits ≡ limits
  pub sessions_are : asked.sessions ≡ sessions
  pub blank : IsBlank asked.sink.contents
  pub sink : Option SinkState
  pub reports : Reports asked old new sink end

-- sessions are served, or there was nothing to listen on
abbrev pub ListenEnds : Option (List Streams) → Type 0 → Limits → ℕ → LoggedWriterState → LoggedWriterState → JobEnd → Type 0
ListenEnds coming is_unheard limits sessions old new end = IsServed coming limits sessions old new end ⊎ IsUnserved is_unheard ended.CannotListen old new end

-- the same, or the file of the trace could not be made
abbrev pub ServeEnds : Option (List Streams) → Type 0 → Type 0 → Limits → ℕ → LoggedWriterState → LoggedWriterState → JobEnd → Type 0
ServeEnds coming is_unheard is_unmade limits sessions old new end =
    ListenEnds coming is_unheard limits sessions old new end ⊎ IsUnserved is_unmade ended.CannotWrite old new end

-- a new file, which held nothing, was written from a trace, and a line that tells of it
pub record IsMoved (input : Option (List ℕ)) (old new : LoggedWriterState) (end : JobEnd) : Type 0 where
  pub out : Outputs
  pub blank : IsBlank out.was.contents
  pub old_is : out.old ≡ old
  pub new_is : out.new ≡ new
  pub ends : MigrateEnds input out end

-- the same, or the trace could not be opened, or the new file could not be made
abbrev pub MovesTo : Option (List ℕ) → Type 0 → LoggedWriterState → LoggedWriterState → JobEnd → Type 0
MovesTo input is_taken old new end =
    IsMoved input old new end ⊎ (IsUnserved (Unit {0}) ended.CannotRead old new end ⊎ IsUnserved is_taken ended.CannotWrite old new end)

-- what there is round a program, by paths: the bytes of files, the files that cannot be made, the paths at which no new one can be, the
-- connections to come and the paths at which none can be
pub record Surroundings : Type 1 where
  pub bytes_at : List ℕ → Option (List ℕ)
  pub is_unmade : List ℕ → Type 0
  pub is_taken : List ℕ → Type 0
  pub coming_at : List ℕ → Option (List Streams)
  pub is_unheard : List ℕ → Type 0

-- a script is run on the input, all that the calls of a race on it may answer is told, sessions are served and reported, or the trace in a file is
-- judged, shown or written anew
abbrev pub Performs : Surroundings → Job → Option (List ℕ) → LoggedWriterState → LoggedWriterState → JobEnd → Type 0
Performs round (job.Replay limits how) input old new end = ReplayEnds limits how input old new end
Performs round (job.Serve socket sessions limits trace) input old new end =
    ServeEnds (round.coming_at (string_bytes socket)) (round.is_unheard (string_bytes socket)) (round.is_unmade (string_bytes trace)) limits sessions old new
    end
Performs round (job.Outcomes limits most how) input old new end = OutcomesEnd limits most how input old new end
Performs round (job.Audit path wanted) input old new end = AuditEnds wanted (round.bytes_at (string_bytes path)) old new end
Performs round (job.Show path form) input old new end = ShowEnds form (round.bytes_at (string_bytes path)) old new end
Performs round (job.Migrate from to) input old new end = MovesTo (round.bytes_at (string_bytes from)) (round.is_taken (string_bytes to)) old new end
