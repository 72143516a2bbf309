-- All that was received so far is taken up, and the session goes on at its seat.
use Rattle.std.proofs.Common.{ℕ, List, Option}
use Rattle.rtrb.specs.Ring.{received, SameConsumer}
use Rattle.session_core.specs.Proved.Desk.{IsReady}
use Rattle.session_core.specs.declared.stage.Stage.TheVariants as stage
use Rattle.run_history.specs.Fronts.{Grows, Since}
use Rattle.session_core.proofs.desk.take_calls.Given as goal

abbrev pub invariant-loop : goal.invariant-loop
invariant-loop g l = record {
  ring : SameConsumer l.fn.consumer l.consumer;
  grows : Grows l.fn.front l.front;
  turns : Since l.front (λ h. (base : Option (List ℕ)) → IsReady (g.K.Kernel.says h) base (received l.fn.consumer) l.fn.output (stage.Ready l.fn.seat) →
      IsReady (g.K.Kernel.says h) base (received l.consumer) l.output (stage.Ready l.seat));
}
