use Rattle.std.proofs.Common.{◌≡◌, map}
use Rattle.std.specs.Arc.{arc_value}
use Rattle.rtrb.specs.Ring.{received}
use Rattle.frame_codec.specs.Trace.{told_of}
use Rattle.trace_writer.specs.Proved.Tracing.{Follows}
use Rattle.trace_writer.proofs.write_trace.write_trace.Given as goal

-- the trace began with this sink, and follows what came out of the ring
abbrev pub invariant-loop : goal.invariant-loop
invariant-loop g l = record {
  told : l.tracer.told ≡ told_of l.fn.limits;
  base : l.tracer.base ≡ g.S.Sink.contents l.fn.sink;
  before : l.tracer.before ≡ g.S.Sink.failures l.fn.sink;
  follows : Follows (map arc_value (received l.ring)) l.tracer;
}
