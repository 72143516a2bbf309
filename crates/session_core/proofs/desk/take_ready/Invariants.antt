-- All that was received so far is taken up.
use Rattle.rtrb.specs.Ring.{received, SameConsumer}
use Rattle.session_core.specs.Proved.Desk.{StandsOn}
use Rattle.run_history.specs.Fronts.{Grows}
use Rattle.session_core.proofs.desk.take_ready.Given as goal

abbrev pub invariant-loop : goal.invariant-loop
invariant-loop g l = record {
  ring : SameConsumer l.fn.consumer l.consumer;
  grows : Grows l.fn.front l.front;
  stands : StandsOn l.front g.K.Kernel.says g.W.Connection.was_shut (received l.fn.consumer) l.fn.output l.fn.standing (received l.consumer) l.output
      l.standing;
}
