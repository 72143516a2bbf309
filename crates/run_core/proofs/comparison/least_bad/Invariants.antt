use Rattle.std.proofs.Common.{ℕ, length, None, IfSome}
use Rattle.run_core.specs.Receipts.{GoodFrom, IsBefore}
use Rattle.run_core.proofs.comparison.least_bad.Given as goal

-- where the rest is good for a place below the least, all is; and what is good of all is good of the rest
abbrev pub invariant-loop-receipt : goal.invariant-loop-receipt
invariant-loop-receipt g l = record {
  good : (p : ℕ) → IsBefore p l.least → GoodFrom l.book.history l.pid p l.before l.left → GoodFrom l.book.history l.pid p None l.receipts;
  rest : (p : ℕ) → GoodFrom l.book.history l.pid p None l.receipts → GoodFrom l.book.history l.pid p l.before l.left;
  bad : IfSome l.least (λ p. GoodFrom l.book.history l.pid p None l.receipts → ⊥);
}

abbrev pub decreases-loop-receipt : goal.decreases-loop-receipt
decreases-loop-receipt g l = length l.left
