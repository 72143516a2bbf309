use Rattle.record_book.proofs.CountLemmas.{counts_orphan}
use Rattle.record_book.proofs.book.Book.record_orphans_exit.Goals as goal

pub invariant_of-self : goal.invariant_of-self
invariant_of-self g c =
    counts_orphan c.self.inside.journal c.append_orphans_exit.new.self c.self.inside.tallies c.count.new.self c.args.process c.in-Some.shares c.count.new.shares
    (rw c.in-Some.is at c.self.invariant)
    c.append_orphans_exit.ensures c.count.ensures.tallies c.count.ensures.shares
