use Rattle.std.proofs.Common.{◌≡◌, ◌↔◌, length}
use Rattle.race_outcomes.proofs.same.same_files.Given as goal

-- if what is left is the same, all is
abbrev pub invariant-loop-first : goal.invariant-loop-first
invariant-loop-first l = (l.left ≡ l.right) ↔ (l.these ≡ l.others)

abbrev pub decreases-loop-first : goal.decreases-loop-first
decreases-loop-first l = length l.left
