use Rattle.plain_world.proofs.CallLaws.{pread_keeps_world}
use Rattle.plain_world.proofs.file_laws.pread_keeps_world.Goals as goal

pub returns : goal.returns
returns c = pread_keeps_world
