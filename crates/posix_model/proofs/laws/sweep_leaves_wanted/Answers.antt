use Rattle.posix_model.proofs.SweepLaws.{sweep_leaves}
use Rattle.posix_model.proofs.laws.sweep_leaves_wanted.Goals as goal

pub returns : goal.returns
returns c = sweep_leaves
