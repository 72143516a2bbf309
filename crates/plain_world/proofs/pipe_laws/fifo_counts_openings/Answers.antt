use Rattle.plain_world.proofs.PipeLaws.{fifo_counts_openings}
use Rattle.plain_world.proofs.pipe_laws.fifo_counts_openings.Goals as goal

pub returns : goal.returns
returns c = fifo_counts_openings
