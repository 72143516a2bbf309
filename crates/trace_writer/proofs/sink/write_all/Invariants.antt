-- So many bytes were written so far, and the sink did not fail.
use Rattle.std.proofs.Common.{◌≡◌, true, length, ◌-◌}
use Rattle.logged_streams.specs.Streams.{WritesFront}
use Rattle.trace_writer.proofs.sink.write_all.Given as goal

abbrev pub invariant-loop-written : goal.invariant-loop-written
invariant-loop-written g l = record {
  front : WritesFront (g.S.Sink.contents l.fn.sink) (g.S.Sink.contents l.sink) l.bytes l.written;
  sound : g.S.Sink.is_sound l.sink ≡ true;
  failures : g.S.Sink.failures l.sink ≡ g.S.Sink.failures l.fn.sink;
}

abbrev pub decreases-loop-written : goal.decreases-loop-written
decreases-loop-written g l = length l.bytes - l.written
