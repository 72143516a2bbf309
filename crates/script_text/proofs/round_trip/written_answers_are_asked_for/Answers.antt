use Rattle.script_text.proofs.AskedLaws.{answer_asked}
use Rattle.script_text.proofs.round_trip.written_answers_are_asked_for.Goals as goal

pub returns : goal.returns
returns c = answer_asked
