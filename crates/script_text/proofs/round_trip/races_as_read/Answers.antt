use Rattle.std.proofs.Common.{refl}
use Rattle.script_text.proofs.round_trip.races_as_read.Goals as goal

pub returns : goal.returns
returns c = record {
  asked = refl;
  races = refl;
}
