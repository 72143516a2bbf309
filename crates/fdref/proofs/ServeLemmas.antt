-- From a run and the line of its report to what its end says.
use Rattle.std.proofs.Common.{◌≡◌, ◌∙◌, ◌≤◌, ◌+◌, ◌-◌, ◌^◌, inl, inr, ℕ, Bool, true, false, cond, List, [], ◌∷◌, Option, None, Some, length, refl, sym, ap, subst, arith, ◌||◌}
use Rattle.std.specs.Prelude.{nat_lt}
use Rattle.std.proofs.lemmas.Bool.{ltb-true}
use Rattle.logged_streams.specs.Streams.{LoggedWriterState, Writes, one_more}
use Rattle.run_core.specs.Run.{FailsIfFewer, IsRun, ReportedSession, RunTold}
use Rattle.run_core.specs.Starters.{failures_by, failures_with}
use Rattle.session_core.specs.Served.{failures_after}
use Rattle.session_core.specs.Starting.{added}
use Rattle.session_core.specs.declared.end.End.{End}
use Rattle.session_core.specs.declared.end.End.TheVariants as end
use Rattle.run_core.specs.declared.report.RunFault.{RunFault}
use Rattle.run_core.specs.declared.report.RunFault.TheVariants as fault
use Rattle.trace_writer.specs.declared.traced.TraceFault.{TraceFault}
use Rattle.fdref.specs.Serve.{IsToldOf, Reported, RunAsked, SinkState, Unreported, WritesReport, end_of_run, is_unstarted, lacks_a_thread, report_line, traced_end}
use Rattle.fdref.specs.Proved.Serving.{end_without_report}
use Rattle.job_core.specs.Output.{WritesLine}
use Rattle.job_core.specs.declared.job_end.JobEnd.{JobEnd}
use Rattle.job_core.specs.declared.job_end.JobEnd.TheVariants as ended

-- ---- a run with a report

-- a report's line that is written whole, by how the run ended
written_by : (asked : RunAsked) (sink : SinkState) (old new : LoggedWriterState) (told : RunTold) (line : List ℕ) → IsToldOf asked sink told → IsRun told →
    length told.ends ≤ asked.sessions
    → line ≡ report_line (length told.ends) told.records told.taken told.given told.trace.whole → Writes old new line
    → Reported asked sink old new (end_of_run (length told.ends) asked.sessions told.trace.fault (lacks_a_thread told.ends))
written_by asked sink old new told line is_of run few is writes_line = go (nat_lt (length told.ends) asked.sessions) told.trace.fault
    (lacks_a_thread told.ends) refl
  where
    writes : (end : JobEnd) → end ≡ end_of_run (length told.ends) asked.sessions told.trace.fault (lacks_a_thread told.ends) →
        WritesReport asked sink old new end
    writes end so = record {
      line = line;
      report = record { told = told; is_of = is_of; run = run; few = few; line_is = is; end_is = so };
      writes =
          writes_line;
    }

    go : (fewer : Bool) (fault : Option TraceFault) (lacks : Bool) → cond fewer ended.CannotListen (traced_end fault lacks) ≡ end_of_run
        (length told.ends) asked.sessions told.trace.fault (lacks_a_thread told.ends)
        → Reported asked sink old new (end_of_run (length told.ends) asked.sessions told.trace.fault (lacks_a_thread told.ends))
    go true fault lacks e = subst (Reported asked sink old new) e (writes ended.CannotListen e)
    go false None true e = subst (Reported asked sink old new) e (writes ended.NoThread e)
    go false None false e = subst (Reported asked sink old new) e (writes ended.Done e)
    go false (Some fault) lacks e = subst (Reported asked sink old new) e (writes ended.TraceFault e)

-- what became of the line of a report
pub reported : (asked : RunAsked) (sink : SinkState) (old new : LoggedWriterState) (told : RunTold) (sessions : ℕ) (end : JobEnd) → IsToldOf asked sink told →
    IsRun told
    → sessions ≡ length told.ends → sessions ≤ asked.sessions
    → WritesLine (report_line sessions told.records told.taken told.given told.trace.whole)
    (end_of_run sessions asked.sessions told.trace.fault (lacks_a_thread told.ends)) old new end
    → Reported asked sink old new end
reported asked sink old new told sessions end is_of run all few (inl (so, appends)) =
    subst (Reported asked sink old new) (sym (so ∙ ap (λ (n : ℕ). end_of_run n asked.sessions told.trace.fault (lacks_a_thread told.ends)) all))
    (written_by asked sink old new told _ is_of run (subst (λ (n : ℕ). n ≤ asked.sessions) all few)
    (ap (λ (n : ℕ). report_line n told.records told.taken told.given told.trace.whole) all) appends)
reported asked sink old new told sessions end is_of run all few (inr (inl (cannot, front))) =
    subst (Reported asked sink old new) (sym cannot) (record {
      line = report_line sessions told.records told.taken told.given told.trace.whole;
      end = end_of_run (length told.ends) asked.sessions told.trace.fault (lacks_a_thread told.ends);
      report = record {
        told = told;
        is_of = is_of;
        run = run;
        few = subst (λ (n : ℕ). n ≤ asked.sessions) all few;
        line_is = ap (λ (n : ℕ). report_line n told.records told.taken told.given told.trace.whole) all;
        end_is = refl;
      };
      front = front;
    })
reported asked sink old new told sessions end is_of run all few (inr (inr (memory, same))) = subst (Reported asked sink old new) (sym memory) same

-- it says that the source cannot listen only where a connection was wanting
pub lost_connection : (line : List ℕ) (old new : LoggedWriterState) (sessions wanted before after : ℕ) (fault : Option TraceFault) (lacks : Bool)
    (end : JobEnd) → FailsIfFewer sessions wanted before after
    → WritesLine line (end_of_run sessions wanted fault lacks) old new end → end ≡ ended.CannotListen → after ≡ before + 1
lost_connection line old new sessions wanted before after fault lacks end (inr fewer) w is = fewer.1
lost_connection line old new sessions wanted before after fault lacks end (inl full) (inl (so, appends)) is =
    absurd (not_short sessions wanted fault lacks full.0 (sym so ∙ is))
  where
    not_short : (n m : ℕ) (f : Option TraceFault) (lacks : Bool) → n ≡ m → end_of_run n m f lacks ≡ ended.CannotListen → ⊥
    not_short n m f lacks same e = go (nat_lt n m) f lacks refl e
      where
        go : (b : Bool) (f : Option TraceFault) (lacks : Bool) → nat_lt n m ≡ b → cond b ended.CannotListen (traced_end f lacks) ≡ ended.CannotListen → ⊥
        go true f lacks below e = omega (arith, same, ltb-true n m below)
        go false None true below e = cc
        go false None false below e = cc
        go false (Some fault) lacks below e = cc
lost_connection line old new sessions wanted before after fault lacks end (inl full) (inr (inl (cannot, front))) is =
    let bad : ended.CannotWrite ≡ ended.CannotListen = sym cannot ∙ is in cc
lost_connection line old new sessions wanted before after fault lacks end (inl full) (inr (inr (memory, same))) is =
    let bad : ended.NoMemory ≡ ended.CannotListen = sym memory ∙ is in cc

-- ---- a run without one

pub unreported : (old : LoggedWriterState) (told : RunFault) → Unreported old old (end_without_report told)
unreported old fault.NoMemory = refl
unreported old fault.NoThread = refl
unreported old fault.Missing = refl
unreported old (fault.Disagree place) = refl

pub never_lost : (told : RunFault) → end_without_report told ≡ ended.CannotListen → ⊥
never_lost fault.NoMemory e = cc
never_lost fault.NoThread e = cc
never_lost fault.Missing e = cc
never_lost (fault.Disagree place) e = cc

-- ---- a run for which a thread was wanting

-- a count is not made less by those of sessions
count_stays : (sessions : List ReportedSession) (least n : ℕ) → least ≤ 2 ^ 64 - 1 → least ≤ n → least ≤ failures_with sessions n
count_stays [] least n fits below = below
count_stays (s ∷ sessions) least n fits below = count_stays sessions least (added n (failures_after s.end_is 0)) fits (omega (arith, fits, below))

-- the starter of a session that has no thread has failed once
failed_once : (e : End) → is_unstarted e ≡ true → failures_after e 0 ≡ 1
failed_once end.NoThread is = refl
failed_once end.Closed is = absurd cc
failed_once end.ReadFault is = absurd cc
failed_once (end.WriteFault sent) is = absurd cc
failed_once end.Malformed is = absurd cc
failed_once end.Ahead is = absurd cc
failed_once end.RunFull is = absurd cc
failed_once end.NoMemory is = absurd cc
failed_once end.Foreign is = absurd cc

-- that of any other has not
never_failed : (e : End) → is_unstarted e ≡ false → failures_after e 0 ≡ 0
never_failed end.NoThread is = absurd cc
never_failed end.Closed is = refl
never_failed end.ReadFault is = refl
never_failed (end.WriteFault sent) is = refl
never_failed end.Malformed is = refl
never_failed end.Ahead is = refl
never_failed end.RunFull is = refl
never_failed end.NoMemory is = refl
never_failed end.Foreign is = refl

-- one session before others, by whether it has no thread
one_session : (s : ReportedSession) (sessions : List ReportedSession) (n : ℕ) (lacks : Bool) → is_unstarted s.end_is ≡ lacks
    → (lacks ≡ false → one_more (added n (failures_after s.end_is 0)) ≤ failures_with sessions (added n (failures_after s.end_is 0)))
    → one_more n ≤ failures_with sessions (added n (failures_after s.end_is 0))
one_session s sessions n true is others =
    let once = failed_once s.end_is is in
    count_stays sessions (one_more n) (added n (failures_after s.end_is 0)) (omega arith) (omega (arith, once))
one_session s sessions n false is others =
    let never = never_failed s.end_is is in
    let rest = others refl in
    omega (arith, never, rest)

-- of sessions before others that lack a thread where the first does not
lacks_later : (b c : Bool) → b ≡ false → (b || c) ≡ true → c ≡ true
lacks_later true c is all = absurd cc
lacks_later false c is all = all

-- where one of these sessions has no thread, there is one failure more
pub lack_counts : (sessions : List ReportedSession) (n : ℕ) → lacks_a_thread sessions ≡ true → one_more n ≤ failures_with sessions n
lack_counts [] n lacks = absurd cc
lack_counts (s ∷ sessions) n lacks =
    one_session s sessions n (is_unstarted s.end_is) refl
    (λ first. lack_counts sessions (added n (failures_after s.end_is 0)) (lacks_later (is_unstarted s.end_is) (lacks_a_thread sessions) first lacks))

-- a run ends for want of a thread only where a session has none
lacked : (n m : ℕ) (f : Option TraceFault) (lacks : Bool) → end_of_run n m f lacks ≡ ended.NoThread → lacks ≡ true
lacked n m f lacks e = go (nat_lt n m) f lacks e
  where
    go : (b : Bool) (f : Option TraceFault) (lacks : Bool) → cond b ended.CannotListen (traced_end f lacks) ≡ ended.NoThread → lacks ≡ true
    go true f lacks e = absurd cc
    go false None true e = refl
    go false None false e = absurd cc
    go false (Some fault) lacks e = absurd cc

-- the same, by what became of the line of its report
pub session_lacked : (line : List ℕ) (old new : LoggedWriterState) (sessions wanted : ℕ) (fault : Option TraceFault) (ends : List ReportedSession) (before : ℕ)
    (end : JobEnd)
    → WritesLine line (end_of_run sessions wanted fault (lacks_a_thread ends)) old new end → end ≡ ended.NoThread → one_more before ≤ failures_with ends before
session_lacked line old new sessions wanted fault ends before end (inl (so, appends)) is =
    lack_counts ends before (lacked sessions wanted fault (lacks_a_thread ends) (sym so ∙ is))
session_lacked line old new sessions wanted fault ends before end (inr (inl (cannot, front))) is = let bad : ended.CannotWrite ≡ ended.NoThread = sym cannot ∙
    is in absurd cc
session_lacked line old new sessions wanted fault ends before end (inr (inr (memory, same))) is = let bad : ended.NoMemory ≡ ended.NoThread = sym memory ∙ is in
    absurd cc

-- a run without a report ends so only where a thread of its own was wanting
pub thread_lacked : (told : RunFault) (ends : List ReportedSession) (n : ℕ) → end_without_report told ≡ ended.NoThread →
    one_more n ≤ failures_with ends (failures_by told n)
thread_lacked fault.NoThread ends n is = count_stays ends (one_more n) (one_more n) (omega arith) (omega arith)
thread_lacked fault.NoMemory ends n is = absurd cc
thread_lacked fault.Missing ends n is = absurd cc
thread_lacked (fault.Disagree place) ends n is = absurd cc
