use Rattle.frame_codec.proofs.HeaderLaws.{headers_are_read}
use Rattle.frame_codec.proofs.trace.headers_are_read.Goals as goal

pub returns : goal.returns
returns c = headers_are_read
