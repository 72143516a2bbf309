use Rattle.std.proofs.Common.{◌≡◌, ◌+◌, ap, arith}
use Rattle.record_book.proofs.CountLemmas.{counts_appended, few_opened}
use Rattle.record_book.proofs.book.Book.record_opening.Goals as goal

pub open_seat-requires-clause-few : goal.open_seat-requires-clause-few
open_seat-requires-clause-few g c =
    few_opened c.processes_are_counted.ensures.planned c.self.inside.journal c.append.new.self c.self.inside.tallies c.self.inside.house c.args.actor c.args.act
    c.in-Ok.appended.receipt
    c.self.invariant c.in-Ok.ensures.appends c.requires.closes c.is_run.ensures.short

pub invariant_of-self-2 : goal.invariant_of-self-2
invariant_of-self-2 g c =
    let a = c.in-Ok.appended in
    let moved = c.in-Ok.ensures.moved in
    let one = c.requires.opens in
    let opened : c.open_seat.new.tallies.opened ≡ c.self.inside.tallies.opened + 1 = ap (λ t. t.opened) c.open_seat.ensures.tallies in
    counts_appended c.processes_are_counted.ensures.planned c.self.inside.journal c.append.new.self c.self.inside.tallies c.open_seat.new.tallies
    c.self.inside.house c.args.actor c.args.act a.receipt
    a.bytes_in a.bytes_out c.self.invariant c.in-Ok.ensures.appends c.requires.closes (omega (arith, one)) moved.bytes_in moved.bytes_out moved.few_in
    moved.few_out
    (ap (λ t. t.counted) c.open_seat.ensures.tallies) (omega (arith, opened, one))
