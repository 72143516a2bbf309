use Rattle.plain_world.proofs.PipeLaws.{unparked_is_not_ready, unparked_is_not_resumed}
use Rattle.plain_world.proofs.pipe_laws.nobody_is_ready_unparked.Goals as goal

pub returns : goal.returns
returns c = record { ready = unparked_is_not_ready; resumed = unparked_is_not_resumed }
