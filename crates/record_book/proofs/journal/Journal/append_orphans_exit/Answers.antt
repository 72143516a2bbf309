use Rattle.std.proofs.Common.{◌≡◌, ◌∙◌, true, [], refl, sym, ap, arith}
use Rattle.std.specs.Prelude.{is_some}
use Rattle.call_types.specs.declared.act.Act.TheVariants as act
use Rattle.slots.specs.Slots.{slot}
use Rattle.posix_model.specs.Exit.{exit}
use Rattle.posix_model.specs.Step.{stepped}
use Rattle.posix_model.specs.declared.world.World.{World}
use Rattle.record_book.specs.RunState.{RunState}
use Rattle.record_book.proofs.ExitLemmas.{prepared_there}
use Rattle.record_book.proofs.GrowLemmas.{journal_ends}
use Rattle.record_book.proofs.PlanLemmas.{after_step}
use Rattle.record_book.proofs.journal.Journal.append_orphans_exit.Goals as goal

pub end_by_prepared-receipt-requires-clause-prepared : goal.end_by_prepared-receipt-requires-clause-prepared
end_by_prepared-receipt-requires-clause-prepared c =
    let there : is_some (slot c.self.inside.progress.world.processes c.args.process) ≡ true =
    rw c.self.invariant.run (rw (← c.self.view_is) at c.requires.there) in
    rw c.self.invariant.exits (prepared_there c.self.inside.progress.world.processes c.args.process there)

pub invariant_of-self : goal.invariant_of-self
invariant_of-self c = journal_ends c.self.inside _ c.args.process c.self.invariant c.end_by_prepared-receipt.ensures.planned (record {
  records = c.end_by_prepared-receipt.ensures.history;
  progress = c.end_by_prepared-receipt.ensures.grows;
  exits = c.end_by_prepared-receipt.ensures.exits;
  closing = rw c.in-Some.is refl;
  house = λ k less. let room = rw c.in-Some.is at c.self.invariant.house in
      omega (arith, less, room, c.push_reserved.ensures.len, c.push_reserved.ensures.capacity);
})

pub returns : goal.returns
returns c =
    let s = c.self.inside.progress in
    let p = c.args.process in
    let book = invariant_of-self c in
    let now = ap (λ (t : RunState). t.world) (sym book.run ∙ c.end_by_prepared-receipt.ensures.grows)
    ∙ after_step s p act.Exit (exit p) c.end_by_prepared-receipt.ensures.planned.comes_to_is
    ∙ ap (λ (t : RunState). (stepped t.world [] (exit p)).world) c.self.invariant.run in
    rw (← c.self.view_is) (record {
      limits = ap (λ (t : RunState). t.limits) c.end_by_prepared-receipt.ensures.grows;
      history = c.end_by_prepared-receipt.ensures.history.sent;
      is_traced = c.end_by_prepared-receipt.ensures.history.is_taken;
      house = rw (c.push_reserved.ensures.items, c.end_by_prepared-receipt.ensures.receipt, c.in-Some.is) refl;
      processes = ap (λ (v : World). v.processes) now;
      closed = ap (λ (v : World). v.closed) now;
    })
