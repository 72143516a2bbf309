use Rattle.std.proofs.Common.{◌≡◌, ◌+◌, length, map}
use Rattle.std.specs.Arc.{arc_value}
use Rattle.rtrb.specs.Ring.{received, known_items}
use Rattle.trace_writer.specs.Proved.Tracing.{GoesOn}
use Rattle.trace_writer.proofs.write_trace.take_all.Given as goal

-- the trace goes on, and those that were seen and not taken are left
abbrev pub invariant-loop-taken : goal.invariant-loop-taken
invariant-loop-taken g l = record {
  goes_on : GoesOn l.fn.tracer l.tracer (map arc_value (received l.ring));
  left : l._taken + length (known_items l.ring) ≡ l.count;
}
