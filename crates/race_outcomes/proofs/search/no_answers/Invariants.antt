use Rattle.std.proofs.Common.{◌≡◌, replicate}
use Rattle.race_outcomes.proofs.search.no_answers.Given as goal

-- a place for each lane so far
abbrev pub invariant-loop-lane : goal.invariant-loop-lane
invariant-loop-lane l = l.places ≡ replicate l._lane 0
