-- What a run of sessions writes, what its end says, and what its sink has (own).
use Rattle.std.specs.Prelude.{◌≡◌, ◌≤◌, ℕ, nat_lt, Bool, true, false, List, ◌++◌, Option, None, Some, if◌then◌else◌, codes, decimal, length}
use Rattle.std.specs.List.{list_any}
use Rattle.call_types.specs.declared.limits.Limits.{Limits}
use Rattle.logged_streams.specs.Streams.{LoggedWriterState, Writes}
use Rattle.run_core.specs.Run.{IsRun, ReportedSession, RunTold, Streams}
use Rattle.run_core.specs.declared.report.RunFault.TheVariants as fault
use Rattle.session_core.specs.declared.end.End.{End}
use Rattle.session_core.specs.declared.end.End.TheVariants as end
use Rattle.trace_writer.specs.declared.traced.TraceFault.{TraceFault}
use Rattle.job_core.specs.Output.{AppendsFront}
use Rattle.job_core.specs.declared.job_end.JobEnd.{JobEnd}
use Rattle.job_core.specs.declared.job_end.JobEnd.TheVariants as ended

-- the line that reports a run: how many sessions were started, the totals of its book, and how many records are whole in its trace
abbrev pub report_line : ℕ → ℕ → ℕ → ℕ → ℕ → List ℕ
report_line sessions records taken given whole =
    codes "sessions " ++ (decimal sessions ++ (codes " records " ++
    (decimal records ++ (codes " in " ++ (decimal taken ++ (codes " out " ++ (decimal given ++ (codes " trace " ++ (decimal whole ++ codes "\n")))))))))

-- what a sink holds, where that is known, how often it failed, and whether it was synced after the last write
pub record SinkState : Type 0 where
  pub contents : Option (List ℕ)
  pub failures : ℕ
  pub is_synced : Bool

-- what is asked of a run: its limits, how many sessions it is to have, what its source has to give before and has after it, and the sink
-- that takes its trace
pub record RunAsked : Type 0 where
  pub limits : Limits
  pub sessions : ℕ
  pub coming : Option (List Streams)
  pub later : Option (List Streams)
  pub sink : SinkState

-- what is told is told of such a run, under a gate that always says yes, whose trace went into the sink and left it so
pub record IsToldOf (asked : RunAsked) (sink : SinkState) (told : RunTold) : Type 0 where
  pub always : told.always ≡ true
  pub limits_are : told.limits_are ≡ asked.limits
  pub coming_is : told.coming ≡ asked.coming
  pub later_is : told.later ≡ asked.later
  pub base : told.trace.base ≡ asked.sink.contents
  pub before : told.trace.before ≡ asked.sink.failures
  pub now : told.trace.now ≡ sink.contents
  pub after : told.trace.after ≡ sink.failures
  pub is_synced : told.trace.is_synced ≡ sink.is_synced

-- whether a session ended since no thread could be started for it
abbrev pub is_unstarted : End → Bool
is_unstarted end.Closed = false
is_unstarted end.ReadFault = false
is_unstarted (end.WriteFault sent) = false
is_unstarted end.Malformed = false
is_unstarted end.Ahead = false
is_unstarted end.RunFull = false
is_unstarted end.NoMemory = false
is_unstarted end.Foreign = false
is_unstarted end.NoThread = true

-- whether one of these sessions did
abbrev pub lacks_a_thread : List ReportedSession → Bool
lacks_a_thread sessions = list_any (λ s. is_unstarted s.end_is) sessions

-- how a run ended whose report is written, where its trace had this fault or none, and where a session lacked a thread or none did
abbrev pub traced_end : Option TraceFault → Bool → JobEnd
traced_end (Some fault) lacks = ended.TraceFault
traced_end None lacks = if lacks then ended.NoThread else ended.Done

-- how a run ended whose report is written: that sessions are wanting is told before a fault of its trace, and that before the want of a
-- thread
abbrev pub end_of_run : ℕ → ℕ → Option TraceFault → Bool → JobEnd
end_of_run started wanted fault lacks = if nat_lt started wanted then ended.CannotListen else traced_end fault lacks

-- the line reports a run that was asked for, and its trace, which went into the sink and left it so; the run ends so
pub record IsReport (asked : RunAsked) (sink : SinkState) (line : List ℕ) (end : JobEnd) : Type 0 where
  pub told : RunTold
  pub is_of : IsToldOf asked sink told
  pub run : IsRun told
  pub few : length told.ends ≤ asked.sessions
  pub line_is : line ≡ report_line (length told.ends) told.records told.taken told.given told.trace.whole
  pub end_is : end ≡ end_of_run (length told.ends) asked.sessions told.trace.fault (lacks_a_thread told.ends)

-- such a line was written, and nothing else
pub record WritesReport (asked : RunAsked) (sink : SinkState) (old new : LoggedWriterState) (end : JobEnd) : Type 0 where
  pub line : List ℕ
  pub report : IsReport asked sink line end
  pub writes : Writes old new line

-- a front of such a line was written, and nothing else, of a run that ended so or so
pub record WritesReportFront (asked : RunAsked) (sink : SinkState) (old new : LoggedWriterState) : Type 0 where
  pub line : List ℕ
  pub end : JobEnd
  pub report : IsReport asked sink line end
  pub front : AppendsFront old new line

-- what the end says of what was written, where the sink is given back
abbrev pub Reported : RunAsked → SinkState → LoggedWriterState → LoggedWriterState → JobEnd → Type 0
Reported asked sink old new ended.Done = WritesReport asked sink old new ended.Done
Reported asked sink old new ended.CannotListen = WritesReport asked sink old new ended.CannotListen
Reported asked sink old new ended.TraceFault = WritesReport asked sink old new ended.TraceFault
Reported asked sink old new ended.NoThread = WritesReport asked sink old new ended.NoThread
Reported asked sink old new ended.CannotWrite = WritesReportFront asked sink old new
Reported asked sink old new ended.NoMemory = new ≡ old
Reported asked sink old new other = ⊥

-- the same, of a run without a report, which gives no sink back
abbrev pub Unreported : LoggedWriterState → LoggedWriterState → JobEnd → Type 0
Unreported old new ended.NoMemory = new ≡ old
Unreported old new ended.NoThread = new ≡ old
Unreported old new ended.MissingShare = new ≡ old
Unreported old new (ended.Disagree place) = new ≡ old
Unreported old new other = ⊥

-- what the end says of what was written and of the sink
abbrev pub Reports : RunAsked → LoggedWriterState → LoggedWriterState → Option SinkState → JobEnd → Type 0
Reports asked old new (Some sink) end = Reported asked sink old new end
Reports asked old new None end = Unreported old new end
