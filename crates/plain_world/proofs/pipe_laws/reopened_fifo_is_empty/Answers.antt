use Rattle.plain_world.proofs.PipeLaws.{reopened_is_empty}
use Rattle.plain_world.proofs.pipe_laws.reopened_fifo_is_empty.Goals as goal

pub returns : goal.returns
returns c = reopened_is_empty
