use Rattle.plain_world.proofs.pipe_laws.nonblock_never_waits.Goals as goal

pub returns : goal.returns
returns c = c.ready_moves.ensures.nonblock
