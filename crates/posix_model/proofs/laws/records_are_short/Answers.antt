use Rattle.posix_model.proofs.LengthLaws.{step_is_short}
use Rattle.posix_model.proofs.laws.records_are_short.Goals as goal

pub returns : goal.returns
returns c = step_is_short
