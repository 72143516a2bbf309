use Rattle.posix_model.proofs.KeptLaws.{history_keeps_exactly}
use Rattle.posix_model.proofs.laws.file_kept_exactly.Goals as goal

pub returns : goal.returns
returns c = history_keeps_exactly c.numbers_rise.ensures.history_whole c.sweep_settles.ensures.history c.sweep_releases.ensures.settled
