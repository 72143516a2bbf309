use Rattle.audit_core.proofs.LawLemmas.{one_ending, one_verdict}
use Rattle.audit_core.proofs.laws.verdicts_are_one.Goals as goal

pub returns-clause-verdict : goal.returns-clause-verdict
returns-clause-verdict c = one_verdict c.no_frame_begins_another.ensures.records c.stops_are_no_frames.ensures.records

pub returns-clause-ending : goal.returns-clause-ending
returns-clause-ending c = one_ending c.no_frame_begins_another.ensures.records c.stops_are_no_frames.ensures.records
