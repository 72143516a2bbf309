use Rattle.std.proofs.Common.{ℕ, ◌≤◌, ◌<◌}
use Rattle.std.specs.List.{slice_index}
use Rattle.run_core.proofs.comparison.unmarked.Given as goal

-- all before are marked
abbrev pub invariant-loop-at : goal.invariant-loop-at
invariant-loop-at l = (p : ℕ) → p < l.at → 1 ≤ slice_index l.marks p
