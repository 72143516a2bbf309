use Rattle.plain_world.proofs.CallLaws.{access_is_needed}
use Rattle.plain_world.proofs.descriptor_laws.access_is_needed.Goals as goal

pub returns : goal.returns
returns c = access_is_needed
