use Rattle.std.proofs.Common.{◌≡◌}
use Rattle.posix_model.specs.Sweep.{is_referred}
use Rattle.plain_world.proofs.SweepLemmas.{kept_below}
use Rattle.plain_world.proofs.sweep.sweep_descriptions.Given as goal

-- the slots below the number are swept
abbrev pub invariant-loop-number : goal.invariant-loop-number
invariant-loop-number l = l.descriptions ≡ kept_below (is_referred l.processes) 0 l.number l.initial.descriptions
