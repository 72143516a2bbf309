use Rattle.std.proofs.Common.{subst}
use Rattle.rtrb.specs.Ring.{received}
use Rattle.session_core.specs.Proved.Desk.{Stands}
use Rattle.session_core.proofs.DeskLemmas as laws
use Rattle.session_core.proofs.answer.answer_all.Goals as goal

pub returns-then-has_ended-clause-stands : goal.returns-then-has_ended-clause-stands
returns-then-has_ended-clause-stands g c h p base is =
    let q = c.send_ready.ensures.grows h p in
    let taken = c.take_ready-taken.ensures.stands h q base (c.loop.invariant.stands h (c.take_ready-taken.ensures.grows h q) base is) in
    let stood = Stands (g.K.Kernel.says h) g.W.Connection.was_shut base (received c.take_ready-taken.new.consumer) c.send_ready.new.output in
    subst stood c.in-Ready.is (c.send_ready.ensures.stands (received c.take_ready-taken.new.consumer) h p base taken)

pub returns-in_default-clause-stands : goal.returns-in_default-clause-stands
returns-in_default-clause-stands g c h p base is =
    let q = c.send_ready.ensures.grows h p in
    let taken = c.take_ready-taken.ensures.stands h q base (c.loop.invariant.stands h (c.take_ready-taken.ensures.grows h q) base is) in
    c.send_ready.ensures.stands (received c.take_ready-taken.new.consumer) h p base taken

pub returns-in_default-clause-rests : goal.returns-in_default-clause-rests
returns-in_default-clause-rests g c = laws.at_rest c.send_ready.new.output c.send_ready.result c.in_default.not-Waits c.send_ready.ensures.sent

pub loop-preserved-in-Waits : goal.loop-preserved-in-Waits
loop-preserved-in-Waits g c = record {
  grows = λ h p. c.loop.invariant.grows h (c.take_ready-taken.ensures.grows h (c.send_ready.ensures.grows h (c.wait_on.ensures.grows h p)));
  ring = laws.same_on c.args.ring.now c.loop.ring c.take_ready-taken.new.consumer c.loop.invariant.ring c.take_ready-taken.ensures.ring;
  stands = λ h p base is.
      let more = received c.take_ready-taken.new.consumer in
      let q = c.wait_on.ensures.grows h p in
      let r = c.send_ready.ensures.grows h q in
      let taken = c.take_ready-taken.ensures.stands h r base (c.loop.invariant.stands h (c.take_ready-taken.ensures.grows h r) base is) in
      let stood = Stands (g.K.Kernel.says h) g.W.Connection.was_shut base more c.send_ready.new.output in
      c.wait_on.ensures.stands more h p base (subst stood c.in-Waits.is (c.send_ready.ensures.stands more h q base taken));
}

pub loop-preserved : goal.loop-preserved
loop-preserved g c = record {
  grows = λ h p. c.loop.invariant.grows h (c.take_ready-taken.ensures.grows h (c.send_ready.ensures.grows h p));
  ring = laws.same_on c.args.ring.now c.loop.ring c.take_ready-taken.new.consumer c.loop.invariant.ring c.take_ready-taken.ensures.ring;
  stands = λ h p base is.
      let q = c.send_ready.ensures.grows h p in
      let taken = c.take_ready-taken.ensures.stands h q base (c.loop.invariant.stands h (c.take_ready-taken.ensures.grows h q) base is) in
      let stood = Stands (g.K.Kernel.says h) g.W.Connection.was_shut base (received c.take_ready-taken.new.consumer) c.send_ready.new.output in
      subst stood c.in-Ready.is (c.send_ready.ensures.stands (received c.take_ready-taken.new.consumer) h p base taken);
}
