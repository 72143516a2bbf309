use Rattle.std.proofs.Common.{ℕ, length, map, ◌≡◌, ◌+◌, ◌≤◌, ◌<◌, ◌⊎◌, IfSome}
use Rattle.std.specs.List.{slice_index}
use Rattle.run_core.specs.Receipts.{named, wanted, IsBefore}
use Rattle.run_core.proofs.comparison.mark_all.Given as goal

-- below the least place each is marked as often as it was named so far
abbrev pub invariant-loop-holder : goal.invariant-loop-holder
invariant-loop-holder g l = record {
  len : length l.marks ≡ length l.fn.marks;
  ones : ((p : ℕ) → slice_index l.fn.marks p ≤ 1) → (p : ℕ) → slice_index l.marks p ≤ 1;
  marked : (p : ℕ) → IsBefore p l.least → slice_index l.marks p + named p (map g.T.HasReceipts.held l.left) ≡ slice_index l.fn.marks p + named p
      (map g.T.HasReceipts.held l.holders);
  lower : (p : ℕ) → IsBefore p l.least → IsBefore p l.fn.least;
  twice : (l.least ≡ l.fn.least) ⊎ IfSome l.least (λ q. IsBefore q l.fn.least × (wanted (length l.fn.marks) q < slice_index l.fn.marks q + named q
      (map g.T.HasReceipts.held l.holders)));
}

abbrev pub decreases-loop-holder : goal.decreases-loop-holder
decreases-loop-holder g l = length l.left
