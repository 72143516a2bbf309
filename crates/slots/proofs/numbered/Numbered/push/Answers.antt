use Rattle.slots.proofs.EntryLaws.{rises_pushed, slots_pushed, less_room}
use Rattle.slots.proofs.numbered.Numbered.push.Goals as goal

pub invariant_of-self : goal.invariant_of-self
invariant_of-self g c = rw c.push_reserved.ensures.items (rises_pushed 0 c.self.inside.entries.items c.self.inside.next c.args.value c.self.invariant)

pub returns-clause-slots : goal.returns-clause-slots
returns-clause-slots g c = rw (c.push_reserved.ensures.items, ← c.self.view_is)
    (slots_pushed c.self.inside.next c.self.inside.entries.items c.args.value c.self.invariant)

pub returns-clause-room : goal.returns-clause-room
returns-clause-room g c = rw (← c.self.view_is) (less_room _ _ _ _ c.self.inside.next c.push_reserved.ensures.capacity c.push_reserved.ensures.len
    (rw (← c.self.view_is) at c.requires))
