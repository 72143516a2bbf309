use Rattle.std.proofs.Common.{◌≡◌, ◌++◌, [], take, drop}
use Rattle.race_outcomes.specs.Proved.Tellings.{seats_from}
use Rattle.race_outcomes.proofs.tellings.seats_of.Given as goal

-- the seats so far, and those of the calls that are left
abbrev pub invariant-loop-index : goal.invariant-loop-index
invariant-loop-index l = l.seats ++ seats_from l.lanes (take l.index l.calls) (drop l.index l.calls) ≡ seats_from l.lanes [] l.calls
