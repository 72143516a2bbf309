use Rattle.posix_model.proofs.ReserveLaws.{reserve_was_kept}
use Rattle.posix_model.proofs.laws.reserve_was_kept.Goals as goal

pub returns : goal.returns
returns c = reserve_was_kept
