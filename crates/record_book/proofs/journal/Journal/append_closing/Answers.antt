use Rattle.std.proofs.Common.{◌≡◌, ◌∙◌, false, Some, refl, sym}
use Rattle.record_book.specs.Exits.{closing_record}
use Rattle.record_book.proofs.ExitLemmas.{closing_is}
use Rattle.record_book.proofs.GrowLemmas.{journal_shuts}
use Rattle.record_book.proofs.journal.Journal.append_closing.Goals as goal

pub invariant_of-self : goal.invariant_of-self
invariant_of-self c =
    let stays_open : c.self.inside.progress.world.closed ≡ false = rw c.self.invariant.run (rw (← c.self.view_is) at c.requires) in
    let has : c.self.inside.house ≡ Some c.in-Some.house = sym c.take.ensures.value ∙ c.in-Some.is in
    let closing : c.in-Some.house.closing ≡ closing_record = closing_is c.in-Some.house.closing c.self.inside.progress.world
    (rw has at c.self.invariant.closing) stays_open in
    journal_shuts c.self.inside _ c.self.invariant c.is_closing_planned.ensures (record {
      records = rw (c.shares-kept.ensures.kept, closing) at c.push.ensures;
      progress = c.close.ensures;
      exits = refl;
      house = c.take.ensures.after;
    })
