use Rattle.std.proofs.Common.{◌∙◌, refl, arith}
use Rattle.posix_model.specs.declared.change.Decided.{Decided}
use Rattle.record_book.specs.RunSeen.{state_of}
use Rattle.record_book.proofs.PlanLemmas.{run_grows, run_more}
use Rattle.record_book.proofs.progress.Progress.append.Goals as goal

pub invariant_of-self-2 : goal.invariant_of-self-2
invariant_of-self-2 c =
    let r = c.args.item.now in
    let d : Decided = record { outcome = r.outcome; change = c.args.change } in
    let stays = c.in_ok-reserve_for.ensures.world in
    record {
      run = run_grows (state_of c.self.inside) _ r d c.self.invariant.run (record {
        planned = rw (← c.self.view_is) at c.requires.planned;
        limits = refl;
        world = c.apply.ensures.world ∙ rw (c.given.ensures.bytes, stays) refl;
        counts = rw (c.bytes_moved-moved.ensures.bytes_in, c.bytes_moved-moved.ensures.bytes_out c.self.inside.machine.world, stays) refl;
      }) (omega (arith, c.bytes_moved-moved.ensures.few_in)) (omega (arith, c.bytes_moved-moved.ensures.few_out));
      capacity = c.apply.ensures.capacity ∙ (c.in_ok-reserve_for.ensures.capacity ∙ c.self.invariant.capacity);
    }

pub returns-clause-grows : goal.returns-clause-grows
returns-clause-grows c =
    let r = c.args.item.now in
    let d : Decided = record { outcome = r.outcome; change = c.args.change } in
    let stays = c.in_ok-reserve_for.ensures.world in
    rw (← c.self.view_is) (run_more (state_of c.self.inside) _ r d (record {
      planned = rw (← c.self.view_is) at c.requires.planned;
      limits = refl;
      world = c.apply.ensures.world ∙ rw (c.given.ensures.bytes, stays) refl;
      counts = rw (c.bytes_moved-moved.ensures.bytes_in, c.bytes_moved-moved.ensures.bytes_out c.self.inside.machine.world, stays) refl;
    }))

pub returns-clause-bytes_out : goal.returns-clause-bytes_out
returns-clause-bytes_out c = c.bytes_moved-moved.ensures.bytes_out c.args.self.now.world
