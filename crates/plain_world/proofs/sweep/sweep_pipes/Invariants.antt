use Rattle.std.proofs.Common.{◌≡◌}
use Rattle.posix_model.specs.Sweep.{is_open}
use Rattle.plain_world.proofs.SweepLemmas.{kept_below}
use Rattle.plain_world.proofs.sweep.sweep_pipes.Given as goal

-- the slots below the number are swept
abbrev pub invariant-loop-number : goal.invariant-loop-number
invariant-loop-number l = l.pipes ≡ kept_below (is_open l.descriptions) 0 l.number l.initial.pipes
