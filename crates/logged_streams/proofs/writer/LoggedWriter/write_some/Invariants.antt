-- An interrupted write takes nothing, and is counted.
use Rattle.std.proofs.Common.{◌≡◌, ◌+◌, ◌-◌, ◌≤◌}
use Rattle.std.specs.Io.KnownBytes.{Keeps}
use Rattle.logged_streams.proofs.writer.LoggedWriter.write_some.Given as goal

abbrev pub invariant-loop-self : goal.invariant-loop-self
invariant-loop-self g l = record {
  keeps : Keeps l.fn.self.contents l.self.contents;
  sound : l.self.log.failed ≡ l.fn.self.log.failed;
  few : l.self.log.calls + l.fn.self.log.interruptions ≤ l.fn.self.log.calls + l.self.log.interruptions;
  leave : l.self.log.refusals ≡ l.fn.self.log.refusals;
}

abbrev pub decreases-loop-self : goal.decreases-loop-self
decreases-loop-self g l = 16 - l.self.log.interruptions
