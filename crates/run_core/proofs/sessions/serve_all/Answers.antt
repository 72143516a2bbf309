use Rattle.std.proofs.Common.{ℕ, ◌+◌, List, map, subst, sym, ap, ◌∙◌}
use mathlib.Core.List.{IsPrefix}
use Rattle.call_types.specs.declared.act.Record.{Record}
use Rattle.record_book.specs.Book.{world_now}
use Rattle.record_book.specs.Exits.{closing_records}
use Rattle.run_core.specs.Run.{FailsIfFewer, streams}
use Rattle.run_core.specs.Starters.{failures_with}
use Rattle.run_core.proofs.sessions.serve_all.Goals as goal

pub returns-clause-failures : goal.returns-clause-failures
returns-clause-failures g c = λ whole. subst (λ (n : ℕ). FailsIfFewer n c.args.sessions (g.S.Source.failures c.args.source.now)
    (g.S.Source.failures c.start_all-started.new.source)) (sym c.join_all-parted.ensures.all) (c.start_all-started.ensures.failures whole)

pub returns-clause-accepted : goal.returns-clause-accepted
returns-clause-accepted g c = λ whole. c.start_all-started.ensures.accepted whole ∙ ap (λ (n : ℕ). g.S.Source.accepted c.args.source.now + n)
    (sym c.join_all-parted.ensures.all)

pub returns-clause-ended : goal.returns-clause-ended
returns-clause-ended g c = record {
  before = c.into_book.result;
  limits_are = c.into_book.ensures.limits;
  closing = c.close-closed.ensures;
  told = map (λ thread. streams (g.S.Reader.Read.remaining thread.promise.reader.value) (g.S.Writer.Write.contents thread.promise.writer.value))
      c.start_all-started.result.running.items;
  joined = c.join_all-parted.ensures.joined c.close-closed.result.book.history
      (c.has_all_of.ensures c.close-closed.result.book.history (subst (λ (l : List Record). IsPrefix l c.close-closed.result.book.history)
      (ap (λ b. b.history) c.into_book.ensures.book) (closing_records (world_now c.into_book.result), sym c.close-closed.ensures.history_is)));
  gives = c.start_all-started.ensures.gives;
}

pub returns-clause-starts : goal.returns-clause-starts
returns-clause-starts g c = c.join_all-parted.ensures.starts ∙
    ap (λ (n : ℕ). failures_with c.join_all-parted.result.sessions.items n) c.start_all-started.ensures.starts
