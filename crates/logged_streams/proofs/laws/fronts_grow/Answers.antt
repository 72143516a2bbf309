use Rattle.std.proofs.Common.{drop, refl}
use Rattle.logged_streams.proofs.WriteLemmas.{wrote_some}
use Rattle.logged_streams.proofs.laws.fronts_grow.Goals as goal

pub returns : goal.returns
returns c old mid new bytes count more front some = wrote_some old mid new bytes (drop count bytes) count more front refl some
