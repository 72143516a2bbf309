use Rattle.std.proofs.Common.{◌≡◌, true, refl, arith}
use Rattle.std.specs.Prelude.{is_some}
use Rattle.slots.specs.Slots.{slot, live}
use Rattle.record_book.proofs.ExitLemmas.{prepared_there, room_less}
use Rattle.record_book.proofs.GrowLemmas.{journal_ends}
use Rattle.record_book.proofs.journal.Journal.append_exit.Goals as goal

pub end_by_prepared-requires-clause-prepared : goal.end_by_prepared-requires-clause-prepared
end_by_prepared-requires-clause-prepared c =
    let there : is_some (slot c.self.inside.progress.world.processes c.args.process) ≡ true = rw c.self.invariant.run (rw (← c.self.view_is) at c.requires) in
    rw c.self.invariant.exits (prepared_there c.self.inside.progress.world.processes c.args.process there)

pub invariant_of-self : goal.invariant_of-self
invariant_of-self c = journal_ends c.self.inside _ c.args.process c.self.invariant c.end_by_prepared.ensures.planned (record {
  records = c.end_by_prepared.ensures.history;
  progress = c.end_by_prepared.ensures.grows;
  exits = c.end_by_prepared.ensures.exits;
  closing = refl;
  house = λ k less. room_less (live c.self.inside.progress.world.processes) k c.self.inside.house (omega (arith, less)) c.self.invariant.house;
})
