use Rattle.std.proofs.Common.{List, ◌∙◌, sym, subst}
use Rattle.call_types.specs.declared.act.Record.{Record}
use Rattle.record_book.specs.Seat.{SeatState}
use Rattle.system_lock.specs.Owns.{OwnsUnder}
use Rattle.system_lock.specs.Says.{IsEnded}
use Rattle.system_lock.proofs.OwnsLaws.{owns_grown, owns_resumed, owns_ended}
use Rattle.system_lock.proofs.SaysLaws.{ended_in}
use Rattle.system_lock.proofs.run_seat.RunSeat+L.try_resume.Goals as goal

pub invariant_of-result : goal.invariant_of-result
invariant_of-result g c =
    let limits = g.L.Ledgers.limits in
    let old = c.args.system.now.book_is in
    let known = owns_grown limits c.self.inside.front old.history c.self.inside.seat c.has_all_of.ensures c.self.invariant in
    let after = owns_resumed limits old c.try_resume.new.self.book_is c.self.inside.seat c.in-Resumed.seat c.in-Resumed.receipt
    c.try_resume.ensures.stood.limits_are known c.in-Resumed.ensures.event in
    subst (λ (l : List Record). OwnsUnder limits l c.in-Resumed.seat) (sym (c.again-front.ensures ∙ c.front.ensures)) after

pub invariant_of-result-in-Ended : goal.invariant_of-result-in-Ended
invariant_of-result-in-Ended g c =
    let limits = g.L.Ledgers.limits in
    let old = c.args.system.now.book_is in
    let known = owns_grown limits c.self.inside.front old.history c.self.inside.seat c.has_all_of.ensures c.self.invariant in
    let after = owns_ended limits old c.try_resume.new.self.book_is c.self.inside.seat c.in-Ended.ended.seat c.in-Ended.ended.why
    c.try_resume.ensures.stood.limits_are known c.in-Ended.ensures.event.0 in
    subst (λ (l : List Record). OwnsUnder limits l c.in-Ended.ended.seat) (sym (c.again-front-in-Ended.ensures ∙ c.front-in-Ended.ensures)) after

pub returns-in-Ended-clause-ended : goal.returns-in-Ended-clause-ended
returns-in-Ended-clause-ended g c h p =
    let limits = g.L.Ledgers.limits in
    let old = c.args.system.now.book_is in
    let known = owns_grown limits c.self.inside.front old.history c.self.inside.seat c.has_all_of.ensures c.self.invariant in
    subst (λ (s : SeatState). IsEnded limits h s c.in-Ended.ended.seat c.in-Ended.ended.why) c.self.view_is
    (ended_in limits h old c.try_resume.new.self.book_is c.self.inside.seat c.in-Ended.ended.seat c.in-Ended.ended.why c.try_resume.ensures.stood known
    c.try_resume.ensures.part (c.try_resume.ensures.grows h p) c.in-Ended.ensures.event.0 c.in-Ended.ensures.event.1)
