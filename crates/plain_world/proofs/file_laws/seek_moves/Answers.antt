use Rattle.plain_world.proofs.CallLaws.{seek_moves}
use Rattle.plain_world.proofs.file_laws.seek_moves.Goals as goal

pub returns : goal.returns
returns c = seek_moves
