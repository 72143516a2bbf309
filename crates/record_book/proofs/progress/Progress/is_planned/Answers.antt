use Rattle.std.proofs.Common.{subst}
use Rattle.record_book.specs.Proved.Inside.{IsRun}
use Rattle.record_book.proofs.PlanLemmas.{plans}
use Rattle.record_book.proofs.progress.Progress.is_planned.Goals as goal

pub returns : goal.returns
returns c =
    plans c.acts_are_sound.ensures c.processes_are_counted.ensures.planned c.numbers_rise.ensures.step_whole c.args.self.now c.args.actor c.args.act.now
    c.args.decided.now
    (subst IsRun c.self.view_is c.self.invariant.run) (rw (← c.self.view_is, ← c.bounds-bounds.ensures.exact) c.bounds-bounds.ensures.small) c.requires.comes
    c.requires.roomy
