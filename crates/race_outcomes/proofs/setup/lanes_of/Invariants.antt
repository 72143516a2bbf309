use Rattle.std.proofs.Common.{◌≡◌, drop}
use Rattle.race_outcomes.specs.Setups.{lanes_from, lanes_of}
use Rattle.race_outcomes.proofs.setup.lanes_of.Given as goal

-- with the calls that are left these are all lanes
abbrev pub invariant-loop-call : goal.invariant-loop-call
invariant-loop-call l = lanes_from l.lanes (drop l.call-index l.calls) ≡ lanes_of l.calls
