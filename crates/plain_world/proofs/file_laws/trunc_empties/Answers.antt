use Rattle.plain_world.proofs.OpenLaws.{trunc_open_empties}
use Rattle.plain_world.proofs.file_laws.trunc_empties.Goals as goal

pub returns : goal.returns
returns c = trunc_open_empties
