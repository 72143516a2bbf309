use Rattle.std.proofs.Common.{◌≡◌, refl, ap, arith}
use Rattle.call_types.specs.declared.act.Act.TheVariants as act
use Rattle.record_book.proofs.CountLemmas.{counts_appended}
use Rattle.record_book.proofs.book.Book.record_exit.Goals as goal

pub invariant_of-self : goal.invariant_of-self
invariant_of-self g c =
    let receipt = c.append_exit-receipt.result in
    let same : c.count.new.self.opened ≡ c.self.inside.tallies.opened = ap (λ t. t.opened) c.count.ensures.tallies in
    counts_appended c.processes_are_counted.ensures.planned c.self.inside.journal c.append_exit-receipt.new.self c.self.inside.tallies c.count.new.self
    c.self.inside.house _ act.Exit receipt 0 0
    c.self.invariant c.append_exit-receipt.ensures.appends refl (omega arith) (rw c.append_exit-receipt.ensures.record_is refl)
    (rw c.append_exit-receipt.ensures.record_is refl) (omega arith) (omega arith)
    (ap (λ t. t.counted) c.count.ensures.tallies) (omega (arith, same))
