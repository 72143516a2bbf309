use Rattle.std.proofs.Common.{◌+◌, length, refl, rules, arith}
use Rattle.std.specs.List.{slice_index}
use Rattle.run_core.specs.Receipts.{names, wanted}
use Rattle.run_core.proofs.ReceiptLemmas.{not_named, named_once, more_than_wanted, still_twice}
use Rattle.run_core.proofs.comparison.mark.Goals as goal

-- a place that was marked before, or is none, is named more often than it is wanted
pub loop-receipt-preserved-then-not-mark_one : goal.loop-receipt-preserved-then-not-mark_one
loop-receipt-preserved-then-not-mark_one c =
    let before = c.loop-receipt.invariant in
    let refused = c.if-not-mark_one.ensures.refused refl in
    let is = c.in-Some.ensures.cases.0 in
    record {
      len = search rules;
      ones = search rules;
      marked = λ p below. let both = c.lower.ensures.both p below in
          rw refused.0 (let same = not_named p _ _ _ _ is c.place-place.ensures both.1 in let all = before.marked p both.0 in omega (arith, same, all));
      lower = λ p below. before.lower p (c.lower.ensures.both p below).0;
      twice = still_twice c.loop-receipt.least c.args.least c.lower.result c.place-place.result
          (λ q. wanted (length c.args.marks.now) q) (λ q. slice_index c.args.marks.now q + names q c.args.receipts.now)
          c.lower.ensures.one before.twice before.lower
          (λ below. more_than_wanted _ _ c.place-place.result _ _ _ _ before.len refused.1 (before.marked _ below)
          (named_once _ _ _ _ is c.place-place.ensures));
    }
