use Rattle.plain_world.proofs.CallLaws.{seek_tells}
use Rattle.plain_world.proofs.file_laws.seek_tells_the_offset.Goals as goal

pub returns : goal.returns
returns c = seek_tells
