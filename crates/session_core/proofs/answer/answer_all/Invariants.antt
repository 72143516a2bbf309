-- All that was received so far is taken up.
use Rattle.rtrb.specs.Ring.{received, SameConsumer}
use Rattle.session_core.specs.Proved.Desk.{StandsOn}
use Rattle.run_history.specs.Fronts.{Grows}
use Rattle.session_core.proofs.answer.answer_all.Given as goal

abbrev pub invariant-loop : goal.invariant-loop
invariant-loop g l = record {
  ring : SameConsumer l.fn.ring l.ring;
  grows : Grows l.fn.front l.front;
  stands : StandsOn l.front g.K.Kernel.says g.W.Connection.was_shut (received l.fn.ring) l.fn.output l.fn.standing (received l.ring) l.output l.standing;
}
