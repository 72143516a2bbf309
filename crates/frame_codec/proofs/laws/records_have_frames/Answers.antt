use Rattle.frame_codec.proofs.ShortRecords.{record_frames}
use Rattle.frame_codec.proofs.laws.records_have_frames.Goals as goal

pub returns : goal.returns
returns c = record_frames
