use Rattle.frame_codec.proofs.HeaderLaws.{headers_tell_limits}
use Rattle.frame_codec.proofs.trace.headers_tell_limits.Goals as goal

pub returns : goal.returns
returns c = headers_tell_limits
