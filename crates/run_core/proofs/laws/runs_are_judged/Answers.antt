use Rattle.run_core.proofs.JudgedLemmas.{runs_judged, runs_spelled}
use Rattle.run_core.proofs.laws.runs_are_judged.Goals as goal

pub returns-clause-judged : goal.returns-clause-judged
returns-clause-judged c = runs_judged c.acts_of_seats_are_in_range.ensures c.written_fronts_are_legal.ensures.written

pub returns-clause-spelled : goal.returns-clause-spelled
returns-clause-spelled c = runs_spelled c.acts_of_seats_are_in_range.ensures c.legal_records_have_frames.ensures
