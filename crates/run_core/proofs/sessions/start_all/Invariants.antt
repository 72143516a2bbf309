use Rattle.std.proofs.Common.{◌≡◌, ◌+◌, ◌≤◌, map, vec_capacity, vec_len}
use Rattle.run_core.specs.Run.{GivesConnections, streams}
use Rattle.run_core.proofs.sessions.start_all.Given as goal

-- so many sessions were started, for the connections that were given so far, and there is room for all
abbrev pub invariant-loop-session : goal.invariant-loop-session
invariant-loop-session g l = record {
  failures : g.S.Source.failures l.source ≡ g.S.Source.failures l.fn.source;
  accepted : g.S.Source.accepted l.source ≡ g.S.Source.accepted l.fn.source + l.session;
  starts : g.T.Starter.failures l.starter ≡ g.T.Starter.failures l.fn.starter;
  gives : GivesConnections (g.S.Source.coming l.fn.source) (g.S.Source.coming l.source)
      (map (λ thread. streams (g.S.Reader.Read.remaining thread.promise.reader.value) (g.S.Writer.Write.contents thread.promise.writer.value)) l.running.items);
  running : vec_len l.running ≡ l.session;
  room : l.fn.sessions ≤ vec_capacity l.running;
}
