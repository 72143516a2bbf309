-- So many requests are pushed.
use Rattle.std.proofs.Common.{◌≡◌, ◌++◌}
use Rattle.rtrb.specs.Ring.{sent, SameProducer}
use Rattle.request_pump.specs.Proved.Pushing.{AsksAsGivenBack}
use Rattle.request_pump.proofs.inlet.Inlet.push_all.Given as goal

abbrev pub invariant-loop-request : goal.invariant-loop-request
invariant-loop-request g l = record {
  ring : SameProducer l.fn.self.producer l.self.producer;
  sent : sent l.self.producer ≡ sent l.fn.self.producer ++ l.yielded;
  in_a_row : l.self.pushes.in_a_row ≡ 0;
  asks : AsksAsGivenBack l.fn.self.pushes l.self.pushes (g.B.Bell.rings l.fn.self.bell) (g.B.Bell.rings l.self.bell);
}
