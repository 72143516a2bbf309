use Rattle.std.proofs.Common.{◌+◌, ◌≤◌, List, ◌∷◌, [], ◌++◌, map, ap, subst, arith}
use Rattle.std.proofs.lemmas.Result.{err_from_is_err_and}
use Rattle.std.specs.Arc.{arc_value}
use Rattle.call_types.specs.declared.act.Record.{Record}
use Rattle.record_book.specs.Counting.{seats_given}
use Rattle.run_core.specs.Proved.Laws.{FlagsDecideAll}
use Rattle.run_core.specs.Run.{AreAll, IsLeast, held_in}
use Rattle.run_core.proofs.ClosingLemmas.{unreported_for}
use Rattle.run_core.proofs.closing.check_run.Goals as goal

pub returns-clause-all : goal.returns-clause-all
returns-clause-all g c =
    let history = c.args.closed.now.book.history in
    let held = map g.T.HasReceipts.held c.args.holders.now ++ held_in c.args.closed.now.house ∷ [] in
    subst (λ (rs : List Record). AreAll history held rs) (ap (map arc_value) c.as_slice.ensures.value) (c.in_ok-least.ensures.all c.in_ok-all_agree.ensures.all)

pub returns-clause-decided : goal.returns-clause-decided
returns-clause-decided g c = subst FlagsDecideAll (ap (map arc_value) c.as_slice.ensures.value) (c.in_ok-least.ensures.decided c.in_ok-all_agree.ensures.all)

pub returns-in_err-all_agree-clause-fault : goal.returns-in_err-all_agree-clause-fault
returns-in_err-all_agree-clause-fault g c =
    let book = c.args.closed.now.book in
    let held = map g.T.HasReceipts.held c.args.holders.now ++ held_in c.args.closed.now.house ∷ [] in
    let received = map arc_value c.args.traced.now.received.items in
    let whole : seats_given book ≤ c.args.shares + 1 = (let enough = c.if-shares-seats.false in let given = c.seats.ensures in omega (arith, enough, given)) in
    let p = err_from_is_err_and c.from_residual-in_err-all_agree.result c.from_residual-in_err-all_agree.ensures.1 in
    rw (p.1, p.2) (unreported_for book (c.args.shares + 1) held c.args.traced.now.fault received c.len.result c.in_ok-least.least c.in_err-all_agree.field-0.0
    whole c.len.ensures
    (λ place is. subst (λ (rs : List Record). IsLeast book.history held rs place) (ap (map arc_value) c.as_slice.ensures.value)
    (c.in_ok-least.ensures.least place is))
    c.in_err-all_agree.ensures.fault)
