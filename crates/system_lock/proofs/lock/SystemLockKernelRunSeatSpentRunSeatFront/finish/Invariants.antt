use Rattle.std.proofs.Common.{◌≡◌}
use Rattle.run_history.specs.Fronts.{Grows}
use Rattle.system_lock.proofs.lock.SystemLockKernelRunSeatSpentRunSeatFront.finish.Given as goal

-- the seat stays as it was, and the front goes on
abbrev pub invariant-loop : goal.invariant-loop
invariant-loop g l = record {
  seat : l.seat ≡ l.fn.seat;
  grows : Grows l.fn.front l.front;
  goes : (goal.iterator-loop g).can_next l.iterator';
  ends : (goal.iterator-loop g).is_finite l.iterator';
}
