use Rattle.plain_world.proofs.ProcessLaws.{shared_is_seen}
use Rattle.plain_world.proofs.process_laws.shared_is_seen.Goals as goal

pub returns : goal.returns
returns c = shared_is_seen
