use Rattle.std.proofs.Common.{sym}
use Rattle.slots.proofs.KeyLaws.{slot_slots, stands_at, slots_removed, slots_absent}
use Rattle.slots.proofs.keyed.Keyed.remove.Goals as goal

pub returns-in-Some-clause-value : goal.returns-in-Some-clause-value
returns-in-Some-clause-value g c = rw (← c.self.view_is)
    (sym (stands_at c.self.inside.next c.self.inside.entries.slots c.args.ticket.now c.in-Some.key c.self.invariant c.in-Some.ensures.there c.remove.result
    c.remove.ensures.value))

pub returns-in-Some-clause-slots : goal.returns-in-Some-clause-slots
returns-in-Some-clause-slots g c =
    rw (← c.self.view_is) (slots_removed c.self.inside.next c.self.inside.entries.slots c.args.ticket.now c.in-Some.key c.self.invariant c.in-Some.ensures.there
    c.remove.new.self.slots c.remove.ensures.updates.others c.remove.ensures.updates.changed)

pub returns-in-None-clause-value : goal.returns-in-None-clause-value
returns-in-None-clause-value g c = rw (← c.self.view_is, slot_slots c.self.inside.next c.self.inside.entries.slots c.args.ticket.now c.self.invariant)
    (sym c.in-None.ensures.gone)

pub returns-in-None-clause-slots : goal.returns-in-None-clause-slots
returns-in-None-clause-slots g c = rw (← c.self.view_is)
    (slots_absent c.self.inside.next c.self.inside.entries.slots c.self.invariant c.args.ticket.now c.in-None.ensures.gone)
