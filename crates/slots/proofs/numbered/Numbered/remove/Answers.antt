use Rattle.std.proofs.Common.{sym}
use Rattle.slots.proofs.EntryLaws.{slot_slots, stands, rises_removed, slots_removed, slots_absent}
use Rattle.slots.proofs.numbered.Numbered.remove.Goals as goal

pub invariant_of-self : goal.invariant_of-self
invariant_of-self g c = rw c.remove.ensures.items (rises_removed 0 c.self.inside.entries.items c.self.inside.next c.in-Ok.index c.self.invariant)

pub returns-in-Ok-clause-value : goal.returns-in-Ok-clause-value
returns-in-Ok-clause-value g c =
    let at = rw c.as_slice.ensures.value at (c.in-Ok.ensures.there) in
    rw (← c.self.view_is) (sym (stands c.self.inside.next c.self.inside.entries.items c.args.number c.self.invariant c.in-Ok.index
    c.remove.result at c.remove.ensures.value))

pub returns-in-Ok-clause-slots : goal.returns-in-Ok-clause-slots
returns-in-Ok-clause-slots g c =
    let at = rw c.as_slice.ensures.value at (c.in-Ok.ensures.there) in
    rw (← c.self.view_is, c.remove.ensures.items) (slots_removed c.self.inside.next c.self.inside.entries.items c.args.number c.in-Ok.index c.self.invariant at)

pub returns-in-Err-clause-value : goal.returns-in-Err-clause-value
returns-in-Err-clause-value g c =
    let gone = rw c.as_slice.ensures.value at (c.in-Err.ensures.gone) in
    rw (← c.self.view_is, slot_slots c.self.inside.next c.self.inside.entries.items c.args.number c.self.invariant) (sym gone)

pub returns-in-Err-clause-slots : goal.returns-in-Err-clause-slots
returns-in-Err-clause-slots g c =
    let gone = rw c.as_slice.ensures.value at (c.in-Err.ensures.gone) in
    rw (← c.self.view_is) (slots_absent c.self.inside.next c.self.inside.entries.items c.args.number c.self.invariant gone)
