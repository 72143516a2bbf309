use Rattle.std.proofs.Common.{◌≡◌, ℕ, List, Some, map, ap, length, subst}
use Rattle.std.proofs.lemmas.Result.{err_from_is_err_and}
use Rattle.std.specs.Arc.{arc_value}
use Rattle.call_types.specs.declared.act.Record.{Record}
use Rattle.record_book.specs.Seat.{SeatState}
use Rattle.run_core.specs.Run.{AreAll, IsLeast, held_in}
use Rattle.run_core.proofs.ClosingLemmas.{closes_for}
use Rattle.run_core.proofs.ReceiptLemmas.{received_all}
use Rattle.run_core.proofs.closing.close_run.Goals as goal

pub returns-clause-all : goal.returns-clause-all
returns-clause-all g c =
    let of_seats = subst (λ (seats : List SeatState). AreAll c.args.book.history (map held_in seats) (map arc_value c.as_slice-received.result.now))
    c.as_slice.ensures.value (c.in_ok-least.ensures.all c.in_ok-all_agree.ensures.all) in
    subst (λ (received : List Record). AreAll c.args.book.history (map held_in c.args.seats.items) received)
    (ap (map arc_value) c.as_slice-received.ensures.value) of_seats

pub returns-clause-received : goal.returns-clause-received
returns-clause-received g c =
    received_all c.args.book.history (map held_in c.args.seats.items) (map arc_value c.args.traced.now.received.items) (returns-clause-all g c)

pub returns-in_err-all_agree-clause-fault : goal.returns-in_err-all_agree-clause-fault
returns-in_err-all_agree-clause-fault g c =
    let history = c.args.book.history in
    let held = map held_in c.args.seats.items in
    let received = map arc_value c.args.traced.now.received.items in
    let of_seats : (place : ℕ) → c.in_ok-least.least ≡ Some place → IsLeast history held (map arc_value c.as_slice-received.result.now) place =
    λ place is. subst (λ (seats : List SeatState). IsLeast history (map held_in seats) (map arc_value c.as_slice-received.result.now) place)
    c.as_slice.ensures.value (c.in_ok-least.ensures.least place is) in
    let p = err_from_is_err_and c.from_residual-in_err-all_agree.result c.from_residual-in_err-all_agree.ensures.1 in
    rw (p.1, p.2) (closes_for c.args.book (length c.args.seats.items) held c.args.traced.now.fault received c.in_ok-totals.totals.records c.in_ok-least.least
    c.in_err-all_agree.field-0.0 c.in_ok-totals.ensures.all c.in_ok-totals.ensures.records
    (λ place is. subst (λ (rs : List Record). IsLeast history held rs place) (ap (map arc_value) c.as_slice-received.ensures.value) (of_seats place is))
    c.in_err-all_agree.ensures.fault)

pub returns-in_err-totals-clause-fault : goal.returns-in_err-totals-clause-fault
returns-in_err-totals-clause-fault g c =
    let p = err_from_is_err_and c.from_residual-in_err-totals.result c.from_residual-in_err-totals.ensures.1 in
    rw (p.1, p.2) (c.in_err-totals.ensures.fault (map held_in c.args.seats.items) c.args.traced.now.fault (map arc_value c.args.traced.now.received.items))
