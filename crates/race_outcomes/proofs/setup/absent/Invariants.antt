use Rattle.std.proofs.Common.{◌≡◌, drop}
use Rattle.race_outcomes.specs.Setups.{absent}
use Rattle.race_outcomes.proofs.setup.absent.Given as goal

-- all processes so far are attached
abbrev pub invariant-loop-call : goal.invariant-loop-call
invariant-loop-call l = absent l.world (drop l.call-index l.calls) ≡ absent l.world l.calls
