use Rattle.plain_world.proofs.OpenLaws.{open_describes, open_is_for_asked}
use Rattle.plain_world.proofs.file_laws.open_describes.Goals as goal

pub returns : goal.returns
returns c = record { description = open_describes; access = open_is_for_asked }
