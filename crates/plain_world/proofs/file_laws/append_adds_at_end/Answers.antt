use Rattle.plain_world.proofs.CallLaws.{write_appends}
use Rattle.plain_world.proofs.file_laws.append_adds_at_end.Goals as goal

pub returns : goal.returns
returns c = write_appends
