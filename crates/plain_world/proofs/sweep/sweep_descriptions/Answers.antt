use Rattle.posix_model.specs.Sweep.{is_referred}
use Rattle.plain_world.proofs.SweepLemmas.{kept_more}
use Rattle.plain_world.proofs.sweep.sweep_descriptions.Goals as goal

pub loop-number-preserved : goal.loop-number-preserved
loop-number-preserved c =
    rw (c.clear_unless.ensures, c.is_referred.ensures)
    (kept_more (is_referred c.args.processes.now) c.loop-number.number c.args.descriptions.now c.loop-number.descriptions c.loop-number.invariant)
