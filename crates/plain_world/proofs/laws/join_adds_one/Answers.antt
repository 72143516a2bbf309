use Rattle.plain_world.proofs.StepLaws.{join_adds, full_join_refused}
use Rattle.plain_world.proofs.laws.join_adds_one.Goals as goal

pub returns : goal.returns
returns c = record { added = join_adds; full = full_join_refused }
