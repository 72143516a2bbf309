-- The outcomes so far are gathered.
use Rattle.std.proofs.Common.{take}
use Rattle.race_outcomes.specs.Tellings.{texts}
use Rattle.job_core.specs.Proved.Racing.{PutsWitnesses}
use Rattle.job_core.proofs.outcomes.put_witnesses.Given as goal

abbrev pub invariant-loop-number : goal.invariant-loop-number
invariant-loop-number l = PutsWitnesses l.search l.form (texts (take l.number l.search.told.items)) l.fn.out.items l.out.items
