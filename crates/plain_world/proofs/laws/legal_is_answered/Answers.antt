use Rattle.plain_world.proofs.StepLaws.{legal_is_answered, answered_is_legal}
use Rattle.plain_world.proofs.laws.legal_is_answered.Goals as goal

pub returns : goal.returns
returns c = record { each = legal_is_answered; only = answered_is_legal }
