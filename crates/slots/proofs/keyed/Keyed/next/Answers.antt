use Rattle.std.proofs.Common.{refl}
use Rattle.slots.proofs.KeyLaws.{length_slots}
use Rattle.slots.proofs.keyed.Keyed.next.Goals as goal

pub returns : goal.returns
returns g c = rw (← c.self.view_is, length_slots c.self.inside.next c.self.inside.entries.slots) refl
