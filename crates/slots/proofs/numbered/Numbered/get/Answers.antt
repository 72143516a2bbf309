use Rattle.std.proofs.Common.{sym}
use Rattle.slots.proofs.EntryLaws.{slot_slots, stands}
use Rattle.slots.proofs.numbered.Numbered.get.Goals as goal

pub returns-in-Ok : goal.returns-in-Ok
returns-in-Ok g c =
    let at = rw c.as_slice.ensures.value at (c.in-Ok.ensures.there) in
    rw (← c.self.view_is) (sym (stands c.self.inside.next c.self.inside.entries.items c.args.number c.self.invariant c.in-Ok.index
    c.index.result.now at c.index.ensures))

pub returns-in-Err : goal.returns-in-Err
returns-in-Err g c =
    let gone = rw c.as_slice.ensures.value at (c.in-Err.ensures.gone) in
    rw (← c.self.view_is, slot_slots c.self.inside.next c.self.inside.entries.items c.args.number c.self.invariant) (sym gone)
