use Rattle.std.proofs.Common.{◌∙◌, ◌++◌, ◌≡◌, ap, sym, length, map}
use Rattle.run_core.specs.Receipts.{GoodAt, IsBefore, IsSound, named, wanted}
use Rattle.run_core.proofs.ReceiptLemmas.{good_joined, good_parted, neither_holds}
use Rattle.run_core.proofs.comparison.least_unsound.Goals as goal

-- below all places all is sound
pub returns-clause-sound : goal.returns-clause-sound
returns-clause-sound g c = λ p below.
    let both = c.lowest.ensures.both p below in
    let bad = c.lowest-bad.ensures.both p both.1 in
    record {
      good = good_joined _ p _ _ (c.requires.good p bad.0) (c.least_bad_of.ensures.good p bad.1);
      covered = c.uncovered-uncovered.ensures.covered p both.0 ∙
          ap (λ len. wanted len p) (c.as_mut_slice.ensures.len ∙ (c.in_ok-marks.ensures.len ∙ c.records_of-records.ensures.count));
    }

-- the lowest of the places that are not named as wanted and of those of a receipt that is not good
pub returns-clause-broken : goal.returns-clause-broken
returns-clause-broken g c =
    neither_holds _ _ _ (λ q. named q (map g.T.HasReceipts.held c.args.holders.now ++ map g.U.HasReceipts.held c.args.others.now) ≡ wanted
    (length c.as_mut_slice.result.now) q)
    (λ q. GoodAt c.args.book.now.history q (map g.T.HasReceipts.held c.args.holders.now ++ map g.U.HasReceipts.held c.args.others.now))
    (λ q. IsSound c.args.book.now.history (map g.T.HasReceipts.held c.args.holders.now ++ map g.U.HasReceipts.held c.args.others.now) q)
    (λ q. IsBefore q c.uncovered-uncovered.result)
    (λ q sound. sound.covered ∙ ap (λ len. wanted len q) (sym (c.as_mut_slice.ensures.len ∙ (c.in_ok-marks.ensures.len ∙ c.records_of-records.ensures.count))))
    (λ q sound. sound.good) c.lowest.ensures.either c.uncovered-uncovered.ensures.uncovered
    (neither_holds _ _ _ (λ q. GoodAt c.args.book.now.history q (map g.T.HasReceipts.held c.args.holders.now))
    (λ q. GoodAt c.args.book.now.history q (map g.U.HasReceipts.held c.args.others.now))
    (λ q. GoodAt c.args.book.now.history q (map g.T.HasReceipts.held c.args.holders.now ++ map g.U.HasReceipts.held c.args.others.now))
    (λ q. IsBefore q c.args.bad)
    (λ q all. (good_parted _ q _ _ all).0) (λ q all. (good_parted _ q _ _ all).1) c.lowest-bad.ensures.either c.requires.bad
    c.least_bad_of.ensures.bad)
