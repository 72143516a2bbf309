use Rattle.frame_codec.proofs.StreamLaws as laws
use Rattle.frame_codec.proofs.laws.pieces_go_on.Goals as goal

pub returns : goal.returns
returns g c = laws.pieces_go_on _ _
