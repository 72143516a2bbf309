use Rattle.std.proofs.Common.{ℕ, length, map, IfSome}
use Rattle.run_core.specs.Receipts.{GoodAt, IsBefore}
use Rattle.run_core.proofs.comparison.least_bad_of.Given as goal

-- where the rest is good for a place below the least, all is; and what is good of all is good of the rest
abbrev pub invariant-loop-holder : goal.invariant-loop-holder
invariant-loop-holder g l = record {
  good : (p : ℕ) → IsBefore p l.least → GoodAt l.book.history p (map g.T.HasReceipts.held l.left) →
      GoodAt l.book.history p (map g.T.HasReceipts.held l.holders);
  rest : (p : ℕ) → GoodAt l.book.history p (map g.T.HasReceipts.held l.holders) → GoodAt l.book.history p (map g.T.HasReceipts.held l.left);
  bad : IfSome l.least (λ p. GoodAt l.book.history p (map g.T.HasReceipts.held l.holders) → ⊥);
}

abbrev pub decreases-loop-holder : goal.decreases-loop-holder
decreases-loop-holder g l = length l.left
