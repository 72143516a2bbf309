use Rattle.audit_core.proofs.TakingLemmas.{ends_after}
use Rattle.audit_core.proofs.trace.TraceAudit.end.Goals as goal

pub returns-in-Some : goal.returns-in-Some
returns-in-Some c input taking =
    rw (c.records.ensures, c.rest.ensures, c.ending.ensures)
    (ends_after input c.self.inside.front c.in-Some.body (rw (← c.self.view_is, c.in-Some.is) at taking))
