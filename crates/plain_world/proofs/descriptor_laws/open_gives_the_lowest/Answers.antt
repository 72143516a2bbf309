use Rattle.plain_world.proofs.DescriptorLaws.{open_gives_lowest}
use Rattle.plain_world.proofs.descriptor_laws.open_gives_the_lowest.Goals as goal

pub returns : goal.returns
returns c = open_gives_lowest
