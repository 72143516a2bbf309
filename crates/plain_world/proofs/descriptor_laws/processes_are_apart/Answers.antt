use Rattle.plain_world.proofs.DescriptorLaws.{processes_are_apart}
use Rattle.plain_world.proofs.descriptor_laws.processes_are_apart.Goals as goal

pub returns : goal.returns
returns c = processes_are_apart
