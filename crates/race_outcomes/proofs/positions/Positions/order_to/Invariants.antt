use Rattle.std.proofs.Common.{◌<◌, length, reverse}
use Rattle.race_outcomes.specs.Moves.{move}
use Rattle.race_outcomes.specs.Search.{LeadsBetween}
use Rattle.race_outcomes.proofs.positions.Positions.order_to.Given as goal

-- what was noted so far, the last first, leads on from here
abbrev pub invariant-loop-by : goal.invariant-loop-by
invariant-loop-by l = (l.at < length l.self.met) × LeadsBetween (move l._race.limits.bounds l._race.lanes) l.self.met l.at l.place (reverse l.order)

abbrev pub decreases-loop-by : goal.decreases-loop-by
decreases-loop-by l = l.at
