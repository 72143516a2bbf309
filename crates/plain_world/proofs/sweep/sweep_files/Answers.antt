use Rattle.posix_model.specs.Sweep.{is_wanted}
use Rattle.plain_world.proofs.SweepLemmas.{kept_more}
use Rattle.plain_world.proofs.sweep.sweep_files.Goals as goal

pub loop-number-preserved : goal.loop-number-preserved
loop-number-preserved c =
    rw (c.clear_unless.ensures, c.is_wanted.ensures)
    (kept_more (is_wanted c.args.names.now c.args.descriptions.now) c.loop-number.number c.args.files.now c.loop-number.files c.loop-number.invariant)
