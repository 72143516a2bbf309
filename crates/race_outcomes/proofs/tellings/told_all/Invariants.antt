use Rattle.race_outcomes.specs.Proved.Tellings.{SaidBelow}
use Rattle.race_outcomes.proofs.tellings.told_all.Given as goal

-- the ends before this one are done
abbrev pub invariant-loop-index : goal.invariant-loop-index
invariant-loop-index l = SaidBelow l.calls l.seats l.explored.met l.ends l.index l.all.items
