use Rattle.plain_world.proofs.CallLaws.{write_moves, write_takes_all}
use Rattle.plain_world.proofs.file_laws.write_moves.Goals as goal

pub returns : goal.returns
returns c = record { offset = write_moves; all = write_takes_all }
