use Rattle.std.proofs.Common.{subst}
use Rattle.logged_streams.specs.Streams.{LoggedReaderState}
use Rattle.job_core.specs.Audit.{AuditEnds}
use Rattle.fdref.proofs.PerformLemmas.{audit_of}
use Rattle.fdref.proofs.perform.audit_at.Goals as goal

pub returns-in-Some : goal.returns-in-Some
returns-in-Some g c =
    audit_of c.args.demand _ _ c.args.writer.now c.audit_file.new.writer c.audit_file.result c.in-Some.ensures
    (subst (λ (r : LoggedReaderState). AuditEnds c.args.demand r.remaining c.args.writer.now c.audit_file.new.writer c.audit_file.result) c.new-reader.ensures
    c.audit_file.ensures.ends)
