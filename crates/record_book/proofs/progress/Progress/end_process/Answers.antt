use Rattle.std.proofs.Common.{◌∙◌, refl, arith}
use Rattle.posix_model.specs.Exit.{exit}
use Rattle.record_book.specs.Exits.{exit_record}
use Rattle.record_book.specs.RunSeen.{state_of}
use Rattle.record_book.proofs.PlanLemmas.{counted_quiet, run_grows, run_more}
use Rattle.record_book.proofs.progress.Progress.end_process.Goals as goal

pub invariant_of-self : goal.invariant_of-self
invariant_of-self c = record {
  run = run_grows (state_of c.self.inside) _ (exit_record c.args.process) (exit c.args.process) c.self.invariant.run (record {
    planned = rw (← c.self.view_is) at c.is_exit_planned.ensures;
    limits = refl;
    world = c.apply.ensures.world ∙ rw (c.given.ensures.bytes, c.decide_exit-decided.ensures) refl;
    counts = counted_quiet c.self.inside.machine.world (exit_record c.args.process) c.self.inside.counts refl refl;
  }) (omega arith) (omega arith);
  capacity = c.apply.ensures.capacity ∙ c.self.invariant.capacity;
}

pub returns : goal.returns
returns c = rw (← c.self.view_is) (run_more (state_of c.self.inside) _ (exit_record c.args.process) (exit c.args.process) (record {
  planned = rw (← c.self.view_is) at c.is_exit_planned.ensures;
  limits = refl;
  world = c.apply.ensures.world ∙ rw (c.given.ensures.bytes, c.decide_exit-decided.ensures) refl;
  counts = counted_quiet c.self.inside.machine.world (exit_record c.args.process) c.self.inside.counts refl refl;
}))
