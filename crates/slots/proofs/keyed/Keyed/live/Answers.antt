use Rattle.slots.proofs.KeyLaws.{live_slots}
use Rattle.slots.proofs.keyed.Keyed.live.Goals as goal

pub returns : goal.returns
returns g c = rw (← c.self.view_is, live_slots c.self.inside.next c.self.inside.entries.slots c.self.invariant) c.len.ensures
