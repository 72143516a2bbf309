use Rattle.plain_world.proofs.ProcessLaws.{closing_closes, closed_once}
use Rattle.plain_world.proofs.process_laws.closing_closes.Goals as goal

pub returns : goal.returns
returns c = record { closes = closing_closes; once = closed_once }
