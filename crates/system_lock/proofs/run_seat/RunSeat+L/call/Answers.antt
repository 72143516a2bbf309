use Rattle.std.proofs.Common.{List, subst, IfErr}
use Rattle.call_types.specs.declared.act.Record.{Record}
use Rattle.call_types.specs.declared.refusal.Refusal.{Refusal}
use Rattle.record_book.specs.Seat.{SeatState}
use Rattle.run_history.specs.Fronts.{Grows}
use Rattle.system_lock.specs.Says.{IsRefused}
use Rattle.system_lock.proofs.OwnsLaws.{owns_grown, owns_called}
use Rattle.system_lock.proofs.SaysLaws.{refused_in}
use Rattle.system_lock.proofs.run_seat.RunSeat+L.call.Goals as goal

pub invariant_of-self : goal.invariant_of-self
invariant_of-self g c =
    let known = owns_grown g.L.Ledgers.limits c.self.inside.front c.args.system.now.book_is.history c.self.inside.seat c.has_all_of.ensures c.self.invariant in
    let limits = g.L.Ledgers.limits in
    let new = c.call-told.new.self.book_is in
    let after = owns_called limits c.args.system.now.book_is new c.self.inside.seat c.call-told.new.seat c.args.call c.call-told.result
    c.call-told.ensures.stood.limits_are known c.call-told.ensures.event in
    owns_grown limits new.history c.catch_up.new.self c.call-told.new.seat
    (subst (λ (l : List Record). Grows l c.catch_up.new.self) c.front.ensures c.catch_up.ensures.others) after

pub returns-clause-refused : goal.returns-clause-refused
returns-clause-refused g c h p =
    let known = owns_grown g.L.Ledgers.limits c.self.inside.front c.args.system.now.book_is.history c.self.inside.seat c.has_all_of.ensures c.self.invariant in
    subst (λ (s : SeatState). IfErr c.call-told.result (λ (told : Refusal). IsRefused g.L.Ledgers.limits h s c.args.call told)) c.self.view_is
    (refused_in g.L.Ledgers.limits h c.args.system.now.book_is c.call-told.new.self.book_is c.self.inside.seat c.call-told.new.seat c.args.call
    c.call-told.result c.call-told.ensures.stood known c.call-told.ensures.part (c.call-told.ensures.grows h p) c.call-told.ensures.event)
