use Rattle.std.proofs.Common.{None, ap, map, ◌∙◌}
use Rattle.std.proofs.lemmas.List.{length-map}
use Rattle.run_core.specs.Receipts.{GoodAt, GoodFrom, IsBefore}
use Rattle.run_core.proofs.ReceiptLemmas.{none_left, good_before, first_good, neither_holds}
use Rattle.run_core.proofs.comparison.least_bad_of.Goals as goal

pub returns-clause-good : goal.returns-clause-good
returns-clause-good g c = λ p before. c.loop-holder.invariant.good p before
    (none_left _ p _ (length-map c.loop-holder.left.now g.T.HasReceipts.held ∙ c.in_default.ensures.cases))

pub loop-holder-preserved : goal.loop-holder-preserved
loop-holder-preserved g c =
    let is = ap (map g.T.HasReceipts.held) c.in-Some.ensures.cases.0 in
    let who = c.pid.ensures in
    let given = c.receipts.ensures in
    record {
      good = λ p before others. let both = c.lowest-least.ensures.both p before in
          c.loop-holder.invariant.good p both.0 (good_before _ p _ _ _ _ _ is who given (c.least_bad.ensures.good p both.1) others);
      rest = λ p all. (first_good _ p _ _ _ _ _ is who given (c.loop-holder.invariant.rest p all)).1;
      bad = neither_holds _ _ _ (λ p. GoodAt c.args.book.now.history p (map g.T.HasReceipts.held c.args.holders.now))
          (λ p. GoodFrom c.args.book.now.history c.pid.result p None c.receipts.result.now)
          (λ p. GoodAt c.args.book.now.history p (map g.T.HasReceipts.held c.args.holders.now)) (λ q. IsBefore q c.loop-holder.least)
          (λ p all. all) (λ p all. (first_good _ p _ _ _ _ _ is who given (c.loop-holder.invariant.rest p all)).0) c.lowest-least.ensures.either
          c.loop-holder.invariant.bad c.least_bad.ensures.bad;
    }
