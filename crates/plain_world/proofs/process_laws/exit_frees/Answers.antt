use Rattle.plain_world.proofs.ProcessLaws.{exit_frees}
use Rattle.plain_world.proofs.process_laws.exit_frees.Goals as goal

pub returns : goal.returns
returns c = exit_frees c.sweep_leaves_wanted.ensures
