use Rattle.audit_core.proofs.LawLemmas.{fault_stays_on}
use Rattle.audit_core.proofs.laws.broken_stays.Goals as goal

pub returns : goal.returns
returns c = fault_stays_on
