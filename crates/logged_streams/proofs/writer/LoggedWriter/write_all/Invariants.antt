-- So many bytes were written so far.
use Rattle.std.proofs.Common.{◌≡◌, length, ◌-◌}
use Rattle.logged_streams.specs.Streams.{WritesFront, IsWell}
use Rattle.logged_streams.proofs.writer.LoggedWriter.write_all.Given as goal

abbrev pub invariant-loop-written : goal.invariant-loop-written
invariant-loop-written g l = record {
  front : WritesFront l.fn.self.contents l.self.contents l.bytes l.written;
  well : IsWell l.fn.self.log l.self.log l.written;
  leave : l.self.log.refusals ≡ l.fn.self.log.refusals;
}

abbrev pub decreases-loop-written : goal.decreases-loop-written
decreases-loop-written g l = length l.bytes - l.written
