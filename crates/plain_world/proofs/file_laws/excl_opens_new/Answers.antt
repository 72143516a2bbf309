use Rattle.plain_world.proofs.OpenLaws.{excl_opens_new}
use Rattle.plain_world.proofs.file_laws.excl_opens_new.Goals as goal

pub returns : goal.returns
returns c = excl_opens_new
