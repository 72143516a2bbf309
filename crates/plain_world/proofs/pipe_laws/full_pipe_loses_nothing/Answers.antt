use Rattle.plain_world.proofs.PipeLaws.{write_loses_nothing, resumed_write_loses_nothing}
use Rattle.plain_world.proofs.pipe_laws.full_pipe_loses_nothing.Goals as goal

pub returns : goal.returns
returns c = record { write = write_loses_nothing; resume = resumed_write_loses_nothing }
