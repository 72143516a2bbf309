use Rattle.audit_core.proofs.AuditLemmas.{judged_at_end, judged_before}
use Rattle.audit_core.proofs.audit.audit.Goals as goal

pub returns-in-AtEnd-clause-audits : goal.returns-in-AtEnd-clause-audits
returns-in-AtEnd-clause-audits g c =
    let r = c.in-AtEnd.ensures.reads in
    judged_at_end c.args.reader.now c.read_all.new.reader c.read_all.new.taker.trace c.end.result r.input r.consumes r.ends.0 r.ends.1 r.ends.2 c.end.ensures

pub returns-clause-audits : goal.returns-clause-audits
returns-clause-audits g c =
    let r = c.in-Told.ensures.reads in
    judged_before c.args.reader.now c.read_all.new.reader c.in-Told.answer r.input r.consumes r.ends.0 r.ends.1
