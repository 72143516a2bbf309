use Rattle.plain_world.proofs.CallLaws.{pwrite_keeps_offsets}
use Rattle.plain_world.proofs.file_laws.pwrite_keeps_offsets.Goals as goal

pub returns : goal.returns
returns c = pwrite_keeps_offsets
