use Rattle.std.proofs.Common.{◌≡◌, ◌++◌, drop}
use Rattle.race_outcomes.specs.Witnesses.{records_along}
use Rattle.race_outcomes.proofs.witness.records_from.Given as goal

-- the records so far, and those of the moves that are left
abbrev pub invariant-loop-number : goal.invariant-loop-number
invariant-loop-number l = l.records ++ records_along l.race.limits.bounds l.race.lanes l.from (drop l.number-index l.order)
    ≡ records_along l.race.limits.bounds l.race.lanes l.fn.start l.order
