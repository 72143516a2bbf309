use Rattle.audit_core.proofs.LawLemmas.{fault_stays}
use Rattle.audit_core.proofs.laws.faults_stay.Goals as goal

pub returns : goal.returns
returns c = fault_stays c.headers_go_on.ensures
