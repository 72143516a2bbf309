use Rattle.audit_core.proofs.FramedLemmas.{have_frames}
use Rattle.audit_core.proofs.laws.legal_records_have_frames.Goals as goal

pub returns : goal.returns
returns c = have_frames c.records_are_short.ensures c.numbers_rise.ensures.step_whole c.numbers_rise.ensures.history_whole
