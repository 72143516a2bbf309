use Rattle.std.proofs.Common.{◌≡◌}
use Rattle.posix_model.specs.Sweep.{is_wanted}
use Rattle.plain_world.proofs.SweepLemmas.{kept_below}
use Rattle.plain_world.proofs.sweep.sweep_files.Given as goal

-- the slots below the number are swept
abbrev pub invariant-loop-number : goal.invariant-loop-number
invariant-loop-number l = l.files ≡ kept_below (is_wanted l.names l.descriptions) 0 l.number l.initial.files
