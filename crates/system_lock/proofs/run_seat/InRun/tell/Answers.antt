use Rattle.std.proofs.Common.{subst}
use Rattle.system_lock.specs.Owns.{OwnsUnder}
use Rattle.system_lock.proofs.OwnsLaws.{owns_since}
use Rattle.system_lock.proofs.run_seat.InRun.tell.Goals as goal

pub returns-clause-owns : goal.returns-clause-owns
returns-clause-owns g c h p = subst (OwnsUnder g.L.Ledgers.limits h) c.self.view_is
    (owns_since g.L.Ledgers.limits c.self.inside.front h _ (c.catch_up.ensures.others h p) c.self.invariant)
