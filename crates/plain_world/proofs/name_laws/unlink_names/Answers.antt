use Rattle.plain_world.proofs.NameLaws.{unlink_names}
use Rattle.plain_world.proofs.name_laws.unlink_names.Goals as goal

pub returns : goal.returns
returns c = unlink_names
