-- What contracts see of how far a run has come.
use Rattle.record_book.specs.RunState.{RunState}
use Rattle.record_book.specs.declared.progress.Progress.TheInside.{Inside}

-- what contracts see of it, and of the run that holds it
abbrev pub state_of : Inside → RunState
state_of p = record { limits = p.limits; world = p.machine.world; counts = p.counts }
