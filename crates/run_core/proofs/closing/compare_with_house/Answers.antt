use Rattle.std.proofs.Common.{◌++◌, map, subst, sym}
use Rattle.std.specs.Arc.{arc_value}
use Rattle.run_core.specs.Receipts.{IsBefore}
use Rattle.run_core.specs.Run.{held_in}
use Rattle.run_core.proofs.ReceiptLemmas.{all_agree, told_place, with_house}
use Rattle.run_core.proofs.closing.compare_with_house.Goals as goal

pub returns-clause-all : goal.returns-clause-all
returns-clause-all g c =
    let held = map g.T.HasReceipts.held c.args.holders.now in
    let house = c.from_ref.result.now in
    λ none. all_agree c.args.closed.now.book.history (held ++ map held_in house) _ (map arc_value c.args.received.now) c.in_ok-least.least
    (with_house held house c.args.closed.now.house c.from_ref.ensures.value) none c.in_ok-least.ensures.agree

pub returns-clause-least : goal.returns-clause-least
returns-clause-least g c =
    let held = map g.T.HasReceipts.held c.args.holders.now in
    let house = c.from_ref.result.now in
    λ place is. told_place c.args.closed.now.book.history (held ++ map held_in house) _ (map arc_value c.args.received.now) c.in_ok-least.least place
    (with_house held house c.args.closed.now.house c.from_ref.ensures.value) is c.in_ok-least.ensures.agree c.in_ok-least.ensures.broken

pub returns-clause-decided : goal.returns-clause-decided
returns-clause-decided g c = λ none p. c.in_ok-least.ensures.decided p (subst (IsBefore p) (sym none) tt)

-- the receipts of the holders are good, so none of them names a place that is not
pub compare_known-requires-clause-good : goal.compare_known-requires-clause-good
compare_known-requires-clause-good g c = λ p before. c.requires.owned p
