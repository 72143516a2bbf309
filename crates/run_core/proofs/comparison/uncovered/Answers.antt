use Rattle.std.proofs.Common.{◌≡◌, ◌++◌, ◌∙◌, length, map, arith}
use Rattle.std.specs.List.{slice_index}
use Rattle.run_core.specs.Receipts.{named, wanted}
use Rattle.run_core.proofs.ReceiptLemmas.{named_as_wanted, named_joined, named_too_often, named_wrongly, none_names}
use Rattle.run_core.proofs.comparison.uncovered.Goals as goal

-- below both places each is marked once
pub returns-clause-covered : goal.returns-clause-covered
returns-clause-covered g c = λ p below.
    let both = c.lowest.ensures.both p below in
    let first = c.mark_all-first.ensures in
    let second = c.mark_all-twice.ensures in
    let one = first.marked p (second.lower p both.0) in
    let two = second.marked p both.0 in
    let none = c.requires.fresh p in
    let sum = named_joined p (map g.T.HasReceipts.held c.args.holders.now) (map g.U.HasReceipts.held c.args.others.now) in
    named_as_wanted _ _ p _ (second.len ∙ first.len) (second.ones (first.ones (λ q. let none = c.requires.fresh q in omega (arith, none))) p)
    (c.unmarked.ensures.before p both.1) (omega (arith, one, two, none, sum))

-- the lowest of the places that are named too often and of those that none names
pub returns-clause-uncovered : goal.returns-clause-uncovered
returns-clause-uncovered g c =
    let first = c.mark_all-first.ensures in
    let second = c.mark_all-twice.ensures in
    named_wrongly _ _ _ (λ q. named q (map g.T.HasReceipts.held c.args.holders.now ++ map g.U.HasReceipts.held c.args.others.now) ≡ wanted
    (length c.args.marks.now) q) c.lowest.ensures.either
    (named_too_often _ _ _ _ (λ q. slice_index c.args.marks.now q) (λ q. slice_index c.mark_all-first.new.marks q)
    (λ q. named q (map g.T.HasReceipts.held c.args.holders.now)) (λ q. named q (map g.U.HasReceipts.held c.args.others.now))
    (λ q. named q (map g.T.HasReceipts.held c.args.holders.now ++ map g.U.HasReceipts.held c.args.others.now)) first.len c.requires.fresh
    (λ q. named_joined q _ _) first.marked first.twice second.twice)
    (none_names _ _ _ _ (λ q. named q (map g.T.HasReceipts.held c.args.holders.now ++ map g.U.HasReceipts.held c.args.others.now))
    (second.len ∙ first.len) c.unmarked.ensures.there
    (λ q before. let one = first.marked q (second.lower q before) in let two = second.marked q before in let none = c.requires.fresh q in let sum =
    named_joined q (map g.T.HasReceipts.held c.args.holders.now) (map g.U.HasReceipts.held c.args.others.now) in omega (arith, one, two, none, sum)))
