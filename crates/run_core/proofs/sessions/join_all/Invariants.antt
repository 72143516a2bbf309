use Rattle.std.proofs.Common.{◌≡◌, ◌+◌, ◌≤◌, map, vec_len, vec_capacity}
use Rattle.std.specs.Vec.Iter.{into_iter_len}
use Rattle.run_history.specs.Fronts.{Since}
use Rattle.run_core.specs.Run.{AreShut, streams}
use Rattle.run_core.specs.Starters.{failures_with}
use Rattle.run_core.specs.Proved.Joining.{IsJoined}
use Rattle.run_core.proofs.sessions.join_all.Given as goal

-- those that were joined were served, and there is room for the others
abbrev pub invariant-loop-thread : goal.invariant-loop-thread
invariant-loop-thread g l = record {
  count : vec_len l.sessions + into_iter_len l.thread-iterator ≡ vec_len l.fn.running;
  room : vec_len l.sessions + into_iter_len l.thread-iterator ≤ vec_capacity l.sessions;
  shares_room : vec_len l.shares + into_iter_len l.thread-iterator ≤ vec_capacity l.shares;
  joined : Since l.front (λ h. IsJoined g.L.Ledgers.limits h g.G.Gate.is_open
      (map (λ thread. streams (g.R.Read.remaining thread.promise.reader.value) (g.W.Write.contents thread.promise.writer.value)) l.yielded) l.sessions.items
      l.shares.items);
  starts : g.T.Starter.failures l.starter ≡ failures_with l.sessions.items (g.T.Starter.failures l.fn.starter);
  shut : AreShut g.W.Connection.was_shut l.sessions.items;
  goes : (goal.iterator-loop-thread g).can_next l.thread-iterator;
  ends : (goal.iterator-loop-thread g).is_finite l.thread-iterator;
}
