use Rattle.std.proofs.Common.{◌+◌, ◌∙◌, ap, map, arith}
use Rattle.std.specs.List.{slice_index}
use Rattle.run_core.specs.Receipts.{names, named}
use Rattle.run_core.proofs.ReceiptLemmas.{seat_names, too_often}
use Rattle.run_core.proofs.comparison.mark_all.Goals as goal

-- the receipts of one more are marked
pub loop-holder-preserved : goal.loop-holder-preserved
loop-holder-preserved g c =
    let before = c.loop-holder.invariant in
    let marked = c.mark-least.ensures in
    let is = ap (map g.T.HasReceipts.held) c.in-Some.ensures.cases.0 in
    let given = c.receipts.ensures in
    record {
      len = marked.len ∙ before.len;
      ones = λ first. marked.ones (before.ones first);
      marked = λ p below. let one = marked.marked p below in let all = before.marked p (marked.lower p below) in let parts = seat_names p _ _ _ _ is given in
          omega (arith, one, all, parts);
      lower = λ p below. before.lower p (marked.lower p below);
      twice = too_often c.loop-holder.least c.args.least c.mark-least.result _ _ (λ q. slice_index c.loop-holder.marks q + names q c.receipts.result.now)
          (λ q. slice_index c.args.marks.now q + named q (map g.T.HasReceipts.held c.args.holders.now)) before.len marked.twice
          (λ q below. let all = before.marked q below in let parts = seat_names q _ _ _ _ is given in omega (arith, all, parts)) before.lower before.twice;
    }
