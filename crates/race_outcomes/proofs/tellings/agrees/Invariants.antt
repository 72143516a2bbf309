use Rattle.std.proofs.Common.{◌↔◌, length}
use Rattle.race_outcomes.specs.Tellings.{Agrees}
use Rattle.race_outcomes.specs.Proved.Tellings.{answers_at}
use Rattle.race_outcomes.proofs.tellings.agrees.Given as goal

-- if what is left agrees, all does
abbrev pub invariant-loop-call : goal.invariant-loop-call
invariant-loop-call l = Agrees l.left (answers_at l.told l.right) ↔ Agrees l.calls (answers_at l.told l.seats)

abbrev pub decreases-loop-call : goal.decreases-loop-call
decreases-loop-call l = length l.left
