use Rattle.posix_model.proofs.ReleaseLaws.{swept_is_settled, settled_stays, sweep_releases, names_release, sweep_counts}
use Rattle.posix_model.proofs.laws.sweep_releases.Goals as goal

pub returns : goal.returns
returns c = record { settled = swept_is_settled; stays = settled_stays; releases = sweep_releases; names = names_release; counts = sweep_counts }
