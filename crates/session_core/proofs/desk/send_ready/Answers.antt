use Rattle.std.proofs.Common.{subst}
use Rattle.session_core.specs.Proved.Desk.{Stands}
use Rattle.session_core.specs.declared.stage.Over.TheVariants as over
use Rattle.session_core.proofs.DeskLemmas as laws
use Rattle.session_core.proofs.desk.send_ready.Goals as goal

pub returns-in-Ok-clause-stands : goal.returns-in-Ok-clause-stands
returns-in-Ok-clause-stands g c taken h p base is =
    laws.sent_all (g.K.Kernel.says h) base taken c.args.output.now c.flush.new.self c.in-Ready.stage c.in-Ok.ensures.ok
    (subst (Stands (g.K.Kernel.says h) g.W.Connection.was_shut base taken c.args.output.now) c.in-Ready.is is)

pub returns-in-Err-clause-stands : goal.returns-in-Err-clause-stands
returns-in-Err-clause-stands g c taken h p base is =
    laws.has_left (g.K.Kernel.says h) g.W.Connection.was_shut base taken c.flush.new.self c.close_and_shut.new.output
    (over.Unwritten c.in-Ready.stage) c.close_and_shut.result
    (laws.not_sent (g.K.Kernel.says h) base taken c.args.output.now c.flush.new.self c.in-Ready.stage c.in-Err.ensures.err
    (subst (Stands (g.K.Kernel.says h) g.W.Connection.was_shut base taken c.args.output.now) c.in-Ready.is is))
    (c.close_and_shut.ensures.left h p) c.close_and_shut.ensures.shut
