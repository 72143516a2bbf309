-- So many requests are left, and together with those that were received they stay the same.
use Rattle.std.proofs.Common.{◌≡◌, ◌++◌, length}
use Rattle.rtrb.specs.Ring.{received, known_items}
use Rattle.session_core.specs.Proved.Desk.{StandsOn}
use Rattle.run_history.specs.Fronts.{Grows}
use Rattle.session_core.proofs.desk.answer_rest.Given as goal

abbrev pub invariant-loop : goal.invariant-loop
invariant-loop g l = record {
  left : length (known_items l.consumer) ≡ l.count;
  same : received l.consumer ++ known_items l.consumer ≡ received l.fn.consumer ++ known_items l.fn.consumer;
  grows : Grows l.fn.front l.front;
  stands : StandsOn l.front g.K.Kernel.says g.W.Connection.was_shut (received l.fn.consumer) l.fn.output l.fn.standing
      (received l.consumer) l.output l.standing;
}
