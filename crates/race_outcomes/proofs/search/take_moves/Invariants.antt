use Rattle.race_outcomes.specs.Moves.{move}
use Rattle.race_outcomes.specs.Proved.Search.{TakesBelow}
use Rattle.race_outcomes.specs.Proved.Spots.{met_in, IsKept}
use Rattle.race_outcomes.proofs.search.take_moves.Given as goal

-- the lanes before this one are done
abbrev pub invariant-loop-lane : goal.invariant-loop-lane
invariant-loop-lane l = TakesBelow (move l.race.limits.bounds l.race.lanes) l.most l.place l.lane (met_in l.fn.search)
    (met_in l.search) l.moved × IsKept l.race.limits.bounds l.race.lanes l.search
