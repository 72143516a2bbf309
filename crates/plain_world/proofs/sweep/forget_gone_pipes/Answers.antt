use Rattle.std.proofs.Common.{None, refl}
use Rattle.posix_model.specs.Sweep.{without_gone_pipe}
use Rattle.plain_world.proofs.SweepLemmas.{map_more}
use Rattle.plain_world.proofs.sweep.forget_gone_pipes.Goals as goal

pub loop-number-preserved : goal.loop-number-preserved
loop-number-preserved c =
    rw c.forget_gone_pipe.ensures
    (map_more (without_gone_pipe c.args.descriptions.now) None refl c.loop-number.number c.args.files.now c.loop-number.files c.loop-number.invariant)
