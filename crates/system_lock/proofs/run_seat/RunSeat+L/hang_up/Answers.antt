use Rattle.std.proofs.Common.{List, ◌∙◌, sym, subst}
use Rattle.call_types.specs.declared.act.Record.{Record}
use Rattle.record_book.specs.Seat.{SeatState}
use Rattle.system_lock.specs.Owns.{OwnsUnder}
use Rattle.system_lock.specs.Says.{IsEnded}
use Rattle.system_lock.proofs.OwnsLaws.{owns_grown, owns_ended}
use Rattle.system_lock.proofs.SaysLaws.{hung_up_in}
use Rattle.system_lock.proofs.run_seat.RunSeat+L.hang_up.Goals as goal

pub invariant_of-result : goal.invariant_of-result
invariant_of-result g c =
    let limits = g.L.Ledgers.limits in
    let old = c.args.system.now.book_is in
    let known = owns_grown limits c.self.inside.front old.history c.self.inside.seat c.has_all_of.ensures c.self.invariant in
    let after = owns_ended limits old c.hang_up-ended.new.self.book_is c.self.inside.seat c.hang_up-ended.result.seat c.hang_up-ended.result.why
    c.hang_up-ended.ensures.stood.limits_are known c.hang_up-ended.ensures.event in
    subst (λ (l : List Record). OwnsUnder limits l c.hang_up-ended.result.seat) (sym (c.again-front.ensures ∙ c.front.ensures)) after

pub returns-clause-ended : goal.returns-clause-ended
returns-clause-ended g c h p =
    let limits = g.L.Ledgers.limits in
    let old = c.args.system.now.book_is in
    let known = owns_grown limits c.self.inside.front old.history c.self.inside.seat c.has_all_of.ensures c.self.invariant in
    subst (λ (s : SeatState). IsEnded limits h s c.hang_up-ended.result.seat c.hang_up-ended.result.why) c.self.view_is
    (hung_up_in limits h old c.hang_up-ended.new.self.book_is c.self.inside.seat c.hang_up-ended.result.seat c.hang_up-ended.result.why
    c.hang_up-ended.ensures.stood known c.hang_up-ended.ensures.part (c.hang_up-ended.ensures.grows h p) c.hang_up-ended.ensures.event
    c.hang_up-ended.ensures.due c.hang_up-ended.ensures.hangs_up.1)
