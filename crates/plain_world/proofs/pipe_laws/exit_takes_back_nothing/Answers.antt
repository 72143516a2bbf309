use Rattle.plain_world.proofs.PipeLaws.{exit_takes_back_nothing}
use Rattle.plain_world.proofs.pipe_laws.exit_takes_back_nothing.Goals as goal

pub returns : goal.returns
returns c = exit_takes_back_nothing c.sweep_leaves_wanted.ensures
