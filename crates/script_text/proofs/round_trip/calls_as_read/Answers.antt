use Rattle.std.proofs.Common.{refl}
use Rattle.script_text.proofs.round_trip.calls_as_read.Goals as goal

pub returns-clause-calls : goal.returns-clause-calls
returns-clause-calls c = record {
  lines = refl;
  bytes = refl;
}
