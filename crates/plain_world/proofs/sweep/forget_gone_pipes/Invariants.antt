use Rattle.std.proofs.Common.{◌≡◌, ◌++◌, take, drop, map}
use Rattle.posix_model.specs.Sweep.{without_gone_pipe}
use Rattle.plain_world.proofs.sweep.forget_gone_pipes.Given as goal

-- the files below the number have forgotten
abbrev pub invariant-loop-number : goal.invariant-loop-number
invariant-loop-number l = l.files ≡ map (without_gone_pipe l.descriptions) (take l.number l.initial.files) ++ drop l.number l.initial.files
