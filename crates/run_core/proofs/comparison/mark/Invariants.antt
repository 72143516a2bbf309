use Rattle.std.proofs.Common.{ℕ, length, ◌≡◌, ◌+◌, ◌≤◌, ◌<◌, ◌⊎◌, IfSome}
use Rattle.std.specs.List.{slice_index}
use Rattle.run_core.specs.Receipts.{names, wanted, IsBefore}
use Rattle.run_core.proofs.comparison.mark.Given as goal

-- below the least place each is marked as often as it was named so far
abbrev pub invariant-loop-receipt : goal.invariant-loop-receipt
invariant-loop-receipt l = record {
  len : length l.marks ≡ length l.fn.marks;
  ones : ((p : ℕ) → slice_index l.fn.marks p ≤ 1) → (p : ℕ) → slice_index l.marks p ≤ 1;
  marked : (p : ℕ) → IsBefore p l.least → slice_index l.marks p + names p l.left ≡ slice_index l.fn.marks p + names p l.receipts;
  lower : (p : ℕ) → IsBefore p l.least → IsBefore p l.fn.least;
  twice : (l.least ≡ l.fn.least) ⊎ IfSome l.least (λ q. IsBefore q l.fn.least × (wanted (length l.fn.marks) q < slice_index l.fn.marks q + names q l.receipts));
}

abbrev pub decreases-loop-receipt : goal.decreases-loop-receipt
decreases-loop-receipt l = length l.left
