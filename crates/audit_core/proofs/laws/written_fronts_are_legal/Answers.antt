use Rattle.audit_core.proofs.WrittenLemmas.{legal_front, written_is_legal}
use Rattle.audit_core.proofs.laws.written_fronts_are_legal.Goals as goal

pub returns-clause-written : goal.returns-clause-written
returns-clause-written c = written_is_legal c.headers_go_on.ensures c.headers_are_read.ensures c.legal_records_have_frames.ensures

pub returns-clause-front : goal.returns-clause-front
returns-clause-front c = legal_front
