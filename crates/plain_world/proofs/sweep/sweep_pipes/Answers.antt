use Rattle.posix_model.specs.Sweep.{is_open}
use Rattle.plain_world.proofs.SweepLemmas.{kept_more}
use Rattle.plain_world.proofs.sweep.sweep_pipes.Goals as goal

pub loop-number-preserved : goal.loop-number-preserved
loop-number-preserved c =
    rw (c.clear_unless.ensures, c.is_open.ensures)
    (kept_more (is_open c.args.descriptions.now) c.loop-number.number c.args.pipes.now c.loop-number.pipes c.loop-number.invariant)
