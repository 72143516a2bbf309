use Rattle.posix_model.proofs.SweepLaws.{sweep_settles, step_settles}
use Rattle.posix_model.proofs.HistoryLaws.{history_settles}
use Rattle.posix_model.proofs.laws.sweep_settles.Goals as goal

pub returns : goal.returns
returns c = record { sweep = sweep_settles; step = step_settles; history = history_settles }
