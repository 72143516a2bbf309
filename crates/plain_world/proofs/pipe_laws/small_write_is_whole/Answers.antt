use Rattle.plain_world.proofs.PipeLaws.{small_write_is_whole}
use Rattle.plain_world.proofs.pipe_laws.small_write_is_whole.Goals as goal

pub returns : goal.returns
returns c = small_write_is_whole
