use Rattle.std.proofs.Common.{List, sym, subst}
use Rattle.rtrb.specs.Ring.{received}
use Rattle.call_types.specs.declared.request.Request.{Request}
use Rattle.session_core.specs.Stages.{Turn}
use Rattle.session_core.specs.Proved.Desk.{IsReady, Stands, TurnStands}
use Rattle.session_core.specs.declared.stage.Stage.TheVariants as stage
use Rattle.session_core.proofs.DeskLemmas as laws
use Rattle.session_core.proofs.desk.take_ready.Goals as goal

pub returns-in-Ready-Ready-clause-stands : goal.returns-in-Ready-Ready-clause-stands
returns-in-Ready-Ready-clause-stands g c h p base is =
    let calls = c.take_calls-called in
    let q = c.stand.ensures.grows h p in
    let stood = subst (Stands (g.K.Kernel.says h) g.W.Connection.was_shut base (received c.loop.consumer) c.loop.output) c.in-Ready-Ready.is
    (c.loop.invariant.stands h (calls.ensures.grows h q) base is) in
    (c.stand.ensures.stands h p) base (received calls.new.consumer)
    (subst (λ (t : Turn). TurnStands (g.K.Kernel.says h) base (received calls.new.consumer) calls.new.output t) (sym c.turn_of.ensures)
    (calls.ensures.turns h q base (subst (IsReady (g.K.Kernel.says h) base (received c.loop.consumer) c.loop.output) c.in-Ready-Ready.field-0-is stood)))

pub returns-in-Err-clause-stands : goal.returns-in-Err-clause-stands
returns-in-Err-clause-stands g c h p base is =
    subst (λ (l : List Request). IsReady (g.K.Kernel.says h) base l c.loop.output (stage.Opening c.in-Ready-Opening.admission)) (sym c.in-Err.ensures.empty.0)
    (subst (IsReady (g.K.Kernel.says h) base (received c.loop.consumer) c.loop.output) c.in-Ready-Opening.field-0-is
    (subst (Stands (g.K.Kernel.says h) g.W.Connection.was_shut base (received c.loop.consumer) c.loop.output) c.in-Ready-Opening.is
    (c.loop.invariant.stands h p base is)))

pub loop-preserved : goal.loop-preserved
loop-preserved g c = record {
  grows = λ h p. c.loop.invariant.grows h (c.take_first-turn.ensures.grows h (c.stand-in-Ready-Opening.ensures.grows h p));
  ring = laws.same_on c.args.consumer.now c.loop.consumer c.pop.new.self c.loop.invariant.ring c.in-Ok.ensures.ring;
  stands = λ h p base is.
      let turn = c.take_first-turn in
      let q = c.stand-in-Ready-Opening.ensures.grows h p in
      let stood = subst (Stands (g.K.Kernel.says h) g.W.Connection.was_shut base (received c.loop.consumer) c.loop.output) c.in-Ready-Opening.is
      (c.loop.invariant.stands h (turn.ensures.grows h q) base is) in
      let ready = subst (IsReady (g.K.Kernel.says h) base (received c.loop.consumer) c.loop.output) c.in-Ready-Opening.field-0-is stood in
      (c.stand-in-Ready-Opening.ensures.stands h p) base (received c.pop.new.self)
      (subst (λ (l : List Request). TurnStands (g.K.Kernel.says h) base l turn.new.output turn.result) (sym c.in-Ok.ensures.ok.0)
      (laws.one_taken (g.K.Kernel.says h) base (received c.loop.consumer) c.in-Ok.request (stage.Opening c.in-Ready-Opening.admission) c.loop.output
      turn.new.output turn.result ready turn.ensures.takes (turn.ensures.refusals h q) (turn.ensures.said h q)));
}
