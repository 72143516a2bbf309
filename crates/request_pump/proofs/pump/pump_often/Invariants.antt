-- All reads so far, one in each turn.
use Rattle.std.proofs.Common.{◌≡◌, ◌<◌, ◌≤◌, false, None, length}
use Rattle.rtrb.specs.Ring.{sent, SameProducer}
use Rattle.request_pump.specs.Proved.Pumping.{HasPumped, IsRung}
use Rattle.request_pump.proofs.pump.pump_often.Given as goal

abbrev pub invariant-loop-turn : goal.invariant-loop-turn
invariant-loop-turn g l = record {
  room : 0 < length l.buffer;
  few : l.source.log.interruptions < 16;
  sound : l.source.log.failed ≡ false;
  calls : l.source.log.calls ≡ l._turn;
  ring : SameProducer l.fn.ring.producer l.ring.producer;
  pumped : HasPumped l.fn.source l.source l.decoder (sent l.fn.ring.producer) (sent l.ring.producer);
  moved : l.source.log.moved ≤ l._turn;
  rung : IsRung (g.B.Bell.rings l.fn.ring.bell) (g.B.Bell.rings l.ring.bell) l.ring.pushes l.source.log.moved None;
}
