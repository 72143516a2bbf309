use Rattle.std.proofs.Common.{subst}
use Rattle.session_core.specs.Proved.Desk.{TurnStands}
use Rattle.session_core.proofs.DeskLemmas as laws
use Rattle.session_core.proofs.desk.stand.Goals as goal

pub returns-in-Over-clause-stands : goal.returns-in-Over-clause-stands
returns-in-Over-clause-stands g c h p base taken is =
    laws.has_left (g.K.Kernel.says h) g.W.Connection.was_shut base taken c.args.output.now c.close_and_shut.new.output c.in-Over.over c.close_and_shut.result
    (subst (TurnStands (g.K.Kernel.says h) base taken c.args.output.now) c.in-Over.is is) (c.close_and_shut.ensures.left h p) c.close_and_shut.ensures.shut
