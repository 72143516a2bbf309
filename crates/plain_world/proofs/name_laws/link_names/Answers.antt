use Rattle.plain_world.proofs.NameLaws.{link_names}
use Rattle.plain_world.proofs.name_laws.link_names.Goals as goal

pub returns : goal.returns
returns c = link_names
