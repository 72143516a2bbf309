use Rattle.std.proofs.Common.{◌≡◌, replicate, []}
use Rattle.race_outcomes.proofs.witness.nothing_told.Given as goal

-- a row for each lane so far
abbrev pub invariant-loop-lane : goal.invariant-loop-lane
invariant-loop-lane l = l.told ≡ replicate l._lane []
