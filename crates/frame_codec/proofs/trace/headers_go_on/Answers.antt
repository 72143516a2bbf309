use Rattle.frame_codec.proofs.HeaderLaws.{headers_go_on}
use Rattle.frame_codec.proofs.trace.headers_go_on.Goals as goal

pub returns : goal.returns
returns c = headers_go_on
