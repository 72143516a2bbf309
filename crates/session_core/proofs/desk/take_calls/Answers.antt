use Rattle.std.proofs.Common.{List, sym, subst}
use Rattle.rtrb.specs.Ring.{received}
use Rattle.call_types.specs.declared.request.Request.{Request}
use Rattle.session_core.specs.Proved.Desk.{IsReady, TurnStands}
use Rattle.session_core.specs.Proved.Turns.{turn_of}
use Rattle.session_core.specs.declared.stage.Stage.TheVariants as stage
use Rattle.session_core.specs.declared.stage.Standing.TheVariants as standing
use Rattle.session_core.proofs.DeskLemmas as laws
use Rattle.session_core.proofs.desk.take_calls.Goals as goal

pub returns-in-Err-clause-turns : goal.returns-in-Err-clause-turns
returns-in-Err-clause-turns g c h p base is = subst (λ (l : List Request). IsReady (g.K.Kernel.says h) base l c.loop.output (stage.Ready c.loop.seat))
    (sym c.in-Err.ensures.empty.0) (c.loop.invariant.turns h p base is)

pub loop-preserved : goal.loop-preserved
loop-preserved g c = record {
  grows = λ h p. c.loop.invariant.grows h (c.take_at.ensures.grows h p);
  ring = laws.same_on c.args.consumer.now c.loop.consumer c.pop.new.self c.loop.invariant.ring c.in-Ok.ensures.ring;
  turns = λ h p base is.
      subst (λ (l : List Request). IsReady (g.K.Kernel.says h) base l c.take_at.new.output (stage.Ready c.take_at.new.seat)) (sym c.in-Ok.ensures.ok.0)
      (laws.one_taken (g.K.Kernel.says h) base (received c.loop.consumer) c.in-Ok.request (stage.Ready c.loop.seat) c.loop.output c.take_at.new.output
      (standing.Ready (stage.Ready c.take_at.new.seat)) (c.loop.invariant.turns h (c.take_at.ensures.grows h p) base is) c.in-Goes.ensures.takes
      (c.in-Goes.ensures.refusals h p) (c.in-Goes.ensures.said h p));
}

pub returns-in_default-clause-turns : goal.returns-in_default-clause-turns
returns-in_default-clause-turns g c h p base is =
    subst (λ (l : List Request). TurnStands (g.K.Kernel.says h) base l c.take_at.new.output (turn_of c.take_at.new.seat c.take_at.result))
    (sym c.in-Ok.ensures.ok.0)
    (laws.one_taken (g.K.Kernel.says h) base (received c.loop.consumer) c.in-Ok.request (stage.Ready c.loop.seat) c.loop.output c.take_at.new.output
    (turn_of c.take_at.new.seat c.take_at.result) (c.loop.invariant.turns h (c.take_at.ensures.grows h p) base is) c.take_at.ensures.takes
    (c.take_at.ensures.refusals h p) (c.take_at.ensures.said h p))
