use Rattle.std.proofs.Common.{◌≡◌, ℕ, ◌+◌, ◌∙◌, Option, ap, map, subst, sym}
use Rattle.std.proofs.lemmas.Result.{err_from_is_err_and}
use Rattle.std.specs.Arc.{arc_value}
use Rattle.trace_writer.specs.declared.traced.Traced.{Traced}
use Rattle.run_core.specs.Proved.Laws.{FlagsDecideAll}
use Rattle.run_core.specs.Unreported.{LeftTold, UnreportedFor, held_of}
use Rattle.run_core.specs.Starters.{failures_with}
use Rattle.run_core.specs.Proved.Starting.{failures_for}
use Rattle.run_core.specs.declared.sessions.Want.{Want}
use Rattle.run_core.specs.declared.sessions.Want.TheVariants as want
use Rattle.run_core.proofs.JoinLemmas.{run_of}
use Rattle.run_core.proofs.LeftLemmas.{left_is}
use Rattle.run_core.proofs.OwnedLemmas.{ended_own}
use Rattle.run_core.proofs.sessions.serve_traced.Goals as goal

pub report_of-requires : goal.report_of-requires
report_of-requires g c =
    let ended = c.serve_all-ended.result in
    record {
      owned = ended_own g.G.Gate.is_open g.L.Ledgers.limits c.args.limits ended.want (g.S.Source.coming c.args.source.now)
          (g.S.Source.coming c.serve_all-ended.new.source) ended.closed.book ended.closed.house ended.parted.sessions.items ended.parted.shares.items
          c.requires.limits c.serve_all-ended.ensures.ended;
    }

pub returns-clause-run : goal.returns-clause-run
returns-clause-run g c =
    let report = c.in_ok-report.report in
    let done = c.join-done.result in
    let told = c.in_ok-report.ensures in
    run_of
    (record {
      always = g.G.Gate.is_open;
      limits_are = c.args.limits;
      coming = g.S.Source.coming c.args.source.now;
      later = g.S.Source.coming c.serve_all-ended.new.source;
      records = report.records;
      taken = report.bytes_in;
      given = report.bytes_out;
      ends = report.ends.items;
      received = map arc_value report.traced.received.items;
      trace = record {
        base = g.K.Sink.contents c.args.traces.thread.promise.sink.value;
        now = g.K.Sink.contents report.sink;
        before = g.K.Sink.failures c.args.traces.thread.promise.sink.value;
        after = g.K.Sink.failures report.sink;
        is_synced = g.K.Sink.is_synced report.sink;
        whole = report.traced.whole;
        bytes = report.traced.bytes;
        fault = report.traced.fault;
      };
    })
    g.L.Ledgers.limits c.serve_all-ended.result.want c.serve_all-ended.result.closed.book c.serve_all-ended.result.closed.house
    c.serve_all-ended.result.parted.sessions.items c.serve_all-ended.result.parted.shares.items (map arc_value done.traced.received.items)
    (record {
      base = g.K.Sink.contents c.args.traces.thread.promise.sink.value;
      now = g.K.Sink.contents done.sink;
      before = g.K.Sink.failures c.args.traces.thread.promise.sink.value;
      after = g.K.Sink.failures done.sink;
      is_synced = g.K.Sink.is_synced done.sink;
      whole = done.traced.whole;
      bytes = done.traced.bytes;
      fault = done.traced.fault;
    })
    (let same = told.ends.0 in cc) (let same = told.trace.0 in cc)
    (let traced = told.trace.0 in let sink = told.trace.1 in cc)
    c.requires.limits told.whole c.serve_all-ended.ensures.ended told.run (rw c.requires.traced at c.join-done.ensures)

pub returns-clause-judged : goal.returns-clause-judged
returns-clause-judged g c =
    let told = c.in_ok-report.ensures in
    let decided = subst (λ (traced : Traced). FlagsDecideAll (map arc_value traced.received.items)) (sym told.trace.0) told.decided in
    c.runs_are_judged.ensures.judged _ (returns-clause-run g c) decided c.runs_are_judged.ensures.told

pub returns-in_err-report-clause-unreported : goal.returns-in_err-report-clause-unreported
returns-in_err-report-clause-unreported g c =
    let ended = c.serve_all-ended.result in
    let done = c.join-done.result in
    let told : LeftTold = record {
      always = g.G.Gate.is_open;
      limits_are = c.args.limits;
      coming = g.S.Source.coming c.args.source.now;
      later = g.S.Source.coming c.serve_all-ended.new.source;
      ends = ended.parted.sessions.items;
      received = map arc_value done.traced.received.items;
      trace = record {
        base = g.K.Sink.contents c.args.traces.thread.promise.sink.value;
        now = g.K.Sink.contents done.sink;
        before = g.K.Sink.failures c.args.traces.thread.promise.sink.value;
        after = g.K.Sink.failures done.sink;
        is_synced = g.K.Sink.is_synced done.sink;
        whole = done.traced.whole;
        bytes = done.traced.bytes;
        fault = done.traced.fault;
      };
      book = ended.closed.book;
      house = ended.closed.house;
    } in
    let fault = c.in_err-report.field-0.0.fault in
    let reason = subst (λ (n : ℕ). UnreportedFor told.book (n + 1) (held_of told) told.trace.fault told.received fault) ended.parted.shares.ok.0
    c.in_err-report.ensures.fault in
    let p = err_from_is_err_and c.from_residual.result c.from_residual.ensures.1 in
    rw (p.1, p.2, c.in_err-report.ensures.left) (left_is told fault g.L.Ledgers.limits ended.want ended.parted.shares.items c.requires.limits
    c.serve_all-ended.ensures.ended (rw c.requires.traced at c.join-done.ensures) c.in_err-report.ensures.want reason)

pub returns-in_err-report-clause-unserved : goal.returns-in_err-report-clause-unserved
returns-in_err-report-clause-unserved g c =
    let p = err_from_is_err_and c.from_residual.result c.from_residual.ensures.1 in
    rw (p.1, p.2) (λ is. c.serve_all-ended.ensures.unserved want.Thread (c.in_err-report.ensures.no_thread is))

pub returns-clause-started : goal.returns-clause-started
returns-clause-started g c =
    let told = c.in_ok-report.ensures in
    let before = g.T.Starter.failures c.args.starter.now in
    let after = g.T.Starter.failures c.serve_all-ended.new.starter in
    let starts = subst (λ (lacked : Option Want). after ≡ failures_with c.serve_all-ended.result.parted.sessions.items (failures_for lacked before)) told.whole
    c.serve_all-ended.ensures.starts in
    rw told.ends.0 starts

pub returns-in_err-report-clause-unstarted : goal.returns-in_err-report-clause-unstarted
returns-in_err-report-clause-unstarted g c =
    let before = g.T.Starter.failures c.args.starter.now in
    let p = err_from_is_err_and c.from_residual.result c.from_residual.ensures.1 in
    rw (p.1, p.2, c.in_err-report.ensures.left) (c.serve_all-ended.ensures.starts ∙
    ap (λ (n : ℕ). failures_with c.serve_all-ended.result.parted.sessions.items n) (c.in_err-report.ensures.wanted before))

pub returns-clause-spelled : goal.returns-clause-spelled
returns-clause-spelled g c =
    let told = c.in_ok-report.ensures in
    let decided = subst (λ (traced : Traced). FlagsDecideAll (map arc_value traced.received.items)) (sym told.trace.0) told.decided in
    c.runs_are_judged.ensures.spelled _ (returns-clause-run g c) decided
