use Rattle.std.proofs.Common.{◌≡◌, ◌++◌, drop}
use Rattle.race_outcomes.specs.Positions.{told_at}
use Rattle.race_outcomes.proofs.positions.rows_at.Given as goal

-- the rows so far, and those at the places that are left
abbrev pub invariant-loop-place : goal.invariant-loop-place
invariant-loop-place l = l.told ++ told_at l.rows (drop l.place-index l.places) ≡ told_at l.rows l.places
