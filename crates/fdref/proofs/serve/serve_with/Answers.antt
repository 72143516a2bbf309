use Rattle.std.proofs.Common.{◌∙◌, sym, refl}
use Rattle.std.specs.Option.{option_map}
use Rattle.run_core.specs.Starters.{left_sessions}
use Rattle.fdref.proofs.ServeLemmas.{lost_connection, never_lost, reported, session_lacked, thread_lacked, unreported}
use Rattle.fdref.proofs.serve.serve_with.Goals as goal

pub returns-in-Err : goal.returns-in-Err
returns-in-Err g c = record {
  reports = rw c.end_without_report.ensures (unreported _ c.in-Err.unreported.fault);
  failed =
      λ is. absurd (never_lost c.in-Err.unreported.fault (sym c.end_without_report.ensures ∙ is));
  unstarted =
      λ is. rw c.in-Err.ensures.unstarted (thread_lacked c.in-Err.unreported.fault
      (left_sessions (option_map (λ left. left.ends.items) c.in-Err.unreported.left))
      _ (sym c.end_without_report.ensures ∙ is));
}

pub returns : goal.returns
returns g c =
    let ran = c.in-Ok.ensures in
    record {
      reports = reported _ _ _ _ _ c.in-Ok.report.sessions c.write_report-end.result
          (record {
            always = refl;
            limits_are = refl;
            coming_is = refl;
            later_is = refl;
            base = refl;
            before = refl;
            now = refl;
            after = refl;
            is_synced =
                refl;
          }) ran.run
          (ran.few.0 ∙ c.in-Ok.report.ends.ok.0) ran.few.1 c.write_report-end.ensures;
      failed = λ is. lost_connection _ _ _ c.in-Ok.report.sessions c.args.sessions _ _ _ _ c.write_report-end.result ran.failures c.write_report-end.ensures is;
      unstarted = λ is. rw ran.started (session_lacked _ _ _ c.in-Ok.report.sessions c.args.sessions c.in-Ok.report.traced.fault c.in-Ok.report.ends.items _
          c.write_report-end.result c.write_report-end.ensures is);
    }
