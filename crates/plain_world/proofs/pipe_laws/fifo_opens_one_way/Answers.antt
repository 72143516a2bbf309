use Rattle.plain_world.proofs.OpenLaws.{fifo_opens_one_way}
use Rattle.plain_world.proofs.pipe_laws.fifo_opens_one_way.Goals as goal

pub returns : goal.returns
returns c = fifo_opens_one_way
