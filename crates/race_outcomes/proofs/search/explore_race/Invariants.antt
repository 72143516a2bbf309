use Rattle.race_outcomes.specs.Moves.{move}
use Rattle.race_outcomes.specs.Outcomes.{start_of}
use Rattle.race_outcomes.specs.Proved.Search.{SoFar}
use Rattle.race_outcomes.specs.Proved.Spots.{met_in, IsKept}
use Rattle.race_outcomes.proofs.search.explore_race.Given as goal

-- the places before this one are done
abbrev pub invariant-loop-place : goal.invariant-loop-place
invariant-loop-place l = SoFar (move l.race.limits.bounds l.race.lanes) (start_of l.race.lanes l.fn.world) l.most l.place
    (met_in l.search) l.ends × IsKept l.race.limits.bounds l.race.lanes l.search
