use Rattle.std.proofs.Common.{List, ◌++◌, ◌∙◌, sym, subst}
use Rattle.rtrb.specs.Ring.{received, known_items}
use Rattle.call_types.specs.declared.request.Request.{Request}
use Rattle.session_core.specs.Proved.Desk.{Stands}
use Rattle.session_core.proofs.DeskLemmas as laws
use Rattle.session_core.proofs.desk.answer_rest.Goals as goal

pub returns-then-count-eq0-clause-ends : goal.returns-then-count-eq0-clause-ends
returns-then-count-eq0-clause-ends g c h p base is =
    let stood = Stands (g.K.Kernel.says h) g.W.Connection.was_shut base (received c.loop.consumer) c.loop.output in (
      laws.ends_after_all (g.K.Kernel.says h) base (received c.loop.consumer) (known_items c.loop.consumer)
          (received c.args.consumer.now ++ known_items c.args.consumer.now) c.args.why c.in-Ready.stage c.loop.output c.close_and_shut.new.output
          c.close_and_shut.result c.loop.invariant.same (c.loop.invariant.left ∙ c.if-count-eq0.true)
          (subst stood c.in-Ready.is (c.loop.invariant.stands h (c.close_and_shut.ensures.grows h p) base is)) c.requires.reading
          (c.close_and_shut.ensures.left h p),
      c.close_and_shut.ensures.shut,
    )

pub returns-in-GivenUp-clause-ends : goal.returns-in-GivenUp-clause-ends
returns-in-GivenUp-clause-ends g c h p base is =
    let closed = c.close_and_shut-in-GivenUp.ensures in
    let stood = Stands (g.K.Kernel.says h) g.W.Connection.was_shut base (received c.loop.consumer) c.loop.output in (
      laws.ends_given_up (g.K.Kernel.says h) base (received c.loop.consumer) (known_items c.loop.consumer)
          (received c.args.consumer.now ++ known_items c.args.consumer.now) c.args.why c.in-GivenUp.seat c.loop.output c.close_and_shut-in-GivenUp.new.output
          c.close_and_shut-in-GivenUp.result c.loop.invariant.same (subst stood c.in-GivenUp.is (c.loop.invariant.stands h (closed.grows h p) base is))
          c.requires.reading (closed.left h p),
      closed.shut,
    )

pub returns-in-Over-clause-ends : goal.returns-in-Over-clause-ends
returns-in-Over-clause-ends g c h p base is =
    let stood = Stands (g.K.Kernel.says h) g.W.Connection.was_shut base (received c.loop.consumer) c.loop.output in
    let left = subst stood c.in-Over.is (c.loop.invariant.stands h p base is) in (
      laws.ends_early (g.K.Kernel.says h) g.W.Connection.was_shut base (received c.loop.consumer) (known_items c.loop.consumer)
          (received c.args.consumer.now ++ known_items c.args.consumer.now) c.args.why c.loop.output c.in-Over.left c.loop.invariant.same left,
      left.shut,
    )

pub loop-preserved-else-count-eq0 : goal.loop-preserved-else-count-eq0
loop-preserved-else-count-eq0 g c = record {
  grows = λ h p. c.loop.invariant.grows h (c.take_late-after.ensures.grows h p);
  left = laws.one_less c.loop.count (known_items c.loop.consumer) (known_items c.pop_known.new.self) c.pop_known.result c.pop_known.ensures.received.1
      c.loop.invariant.left;
  same = laws.rest_taken (received c.loop.consumer) (received c.pop_known.new.self) (known_items c.loop.consumer)
      (known_items c.pop_known.new.self) c.pop_known.result c.pop_known.ensures.received.0 c.pop_known.ensures.received.1 ∙ c.loop.invariant.same;
  stands = λ h p base is.
      let stood = Stands (g.K.Kernel.says h) g.W.Connection.was_shut base in
      subst (λ (l : List Request). stood l c.take_late-after.new.output c.take_late-after.result.0) (sym c.pop_known.ensures.received.0)
      (c.take_late-after.ensures.stands (received c.loop.consumer) h p base
      (subst (stood (received c.loop.consumer) c.loop.output) c.in-Ready.is (c.loop.invariant.stands h (c.take_late-after.ensures.grows h p) base is)));
}

pub loop-preserved : goal.loop-preserved
loop-preserved g c = record {
  grows = λ h p. c.loop.invariant.grows h (c.wait_on.ensures.grows h p);
  left = c.loop.invariant.left;
  same = c.loop.invariant.same;
  stands = λ h p base is.
      let stood = Stands (g.K.Kernel.says h) g.W.Connection.was_shut base (received c.loop.consumer) c.loop.output in
      c.wait_on.ensures.stands (received c.loop.consumer) h p base
      (subst stood c.in-Waits.is (c.loop.invariant.stands h (c.wait_on.ensures.grows h p) base is));
}
