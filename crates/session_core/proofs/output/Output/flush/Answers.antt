use Rattle.session_core.proofs.OutputLemmas.{sent_after, failed_after}
use Rattle.session_core.proofs.output.Output.flush.Goals as goal

pub returns-clause-ok : goal.returns-clause-ok
returns-clause-ok g c = sent_after c.send.result c.args.self.now c.pass.new.self c.send.new.self c.pass.ensures.passes c.send.ensures.ok

pub returns-clause-err : goal.returns-clause-err
returns-clause-err g c = failed_after c.send.result c.args.self.now c.pass.new.self c.send.new.self c.pass.ensures.passes c.send.ensures.err
