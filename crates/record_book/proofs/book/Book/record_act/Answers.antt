use Rattle.std.proofs.Common.{◌≡◌, ap, arith}
use Rattle.record_book.proofs.CountLemmas.{counts_appended}
use Rattle.record_book.proofs.book.Book.record_act.Goals as goal

pub invariant_of-self-2 : goal.invariant_of-self-2
invariant_of-self-2 g c =
    let moved = c.in-Ok.ensures.moved in
    let none = c.requires.opens in
    let same : c.count.new.self.opened ≡ c.self.inside.tallies.opened = ap (λ t. t.opened) c.count.ensures.tallies in
    counts_appended c.processes_are_counted.ensures.planned c.self.inside.journal c.append.new.self c.self.inside.tallies c.count.new.self c.self.inside.house _
    c.args.act c.in-Ok.appended.receipt
    c.in-Ok.appended.bytes_in c.in-Ok.appended.bytes_out c.self.invariant c.in-Ok.ensures.appends c.requires.closes
    (omega (arith, none)) moved.bytes_in moved.bytes_out moved.few_in moved.few_out
    (ap (λ t. t.counted) c.count.ensures.tallies) (omega (arith, same, none))
