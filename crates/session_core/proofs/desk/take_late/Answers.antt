use Rattle.std.proofs.Common.{[], ◌∷◌, ◌++◌, sym, subst}
use Rattle.session_core.specs.Stages.{Turn}
use Rattle.session_core.specs.Proved.Desk.{IsReady, TurnStands}
use Rattle.session_core.specs.Proved.Turns.{turn_of}
use Rattle.session_core.specs.declared.stage.Stage.TheVariants as stage
use Rattle.session_core.proofs.DeskLemmas as laws
use Rattle.session_core.proofs.desk.take_late.Goals as goal

pub returns-in-Ready-clause-stands : goal.returns-in-Ready-clause-stands
returns-in-Ready-clause-stands g c taken h p base is =
    let called = c.take_at-called in
    let q = c.stand.ensures.grows h p in
    (c.stand.ensures.stands h p) base (taken ++ c.args.request ∷ [])
    (subst (λ (t : Turn). TurnStands (g.K.Kernel.says h) base (taken ++ c.args.request ∷ []) called.new.output t) (sym c.turn_of.ensures)
    (laws.one_taken (g.K.Kernel.says h) base taken c.args.request (stage.Ready c.in-Ready.seat) c.args.output.now called.new.output
    (turn_of called.new.seat called.result) (subst (IsReady (g.K.Kernel.says h) base taken c.args.output.now) c.in-Ready.is is) called.ensures.takes
    (called.ensures.refusals h q) (called.ensures.said h q)))

pub returns-in-Opening-clause-stands : goal.returns-in-Opening-clause-stands
returns-in-Opening-clause-stands g c taken h p base is =
    let turn = c.take_first-turn in
    let q = c.stand-standing.ensures.grows h p in
    (c.stand-standing.ensures.stands h p) base (taken ++ c.args.request ∷ [])
    (laws.one_taken (g.K.Kernel.says h) base taken c.args.request (stage.Opening c.in-Opening.admission) c.args.output.now turn.new.output turn.result
    (subst (IsReady (g.K.Kernel.says h) base taken c.args.output.now) c.in-Opening.is is) turn.ensures.takes (turn.ensures.refusals h q)
    (turn.ensures.said h q))
