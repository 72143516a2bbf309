use Rattle.plain_world.proofs.CallLaws.{ftruncate_keeps_offsets}
use Rattle.plain_world.proofs.file_laws.ftruncate_keeps_offsets.Goals as goal

pub returns : goal.returns
returns c = ftruncate_keeps_offsets
