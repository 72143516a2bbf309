-- What is seen of the ring of a trace, by what is inside it (own).
use Rattle.std.specs.Prelude.{map, is_none}
use Rattle.std.specs.Arc.{arc_value}
use Rattle.rtrb.specs.Ring.{sent, known_free}
use Rattle.trace_ring.specs.RingState.{RingState}
use Rattle.trace_ring.specs.declared.trace_ring.TraceRing.TheInside.{Inside}

-- what is seen of a ring (own)
abbrev pub ring_state : Inside → RingState
ring_state r = record { sent = map arc_value (sent r.producer); free = known_free r.producer; is_taken = is_none r.consumer }
