use Rattle.script_text.proofs.RoundTrip.{read_back, act_read_back}
use Rattle.script_text.proofs.round_trip.written_calls_are_read_again.Goals as goal

pub returns-clause-calls : goal.returns-clause-calls
returns-clause-calls c = read_back

pub returns-clause-acts : goal.returns-clause-acts
returns-clause-acts c = act_read_back
