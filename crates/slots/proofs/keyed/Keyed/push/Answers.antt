use Rattle.std.proofs.Common.{◌∙◌, sym}
use Rattle.slots.proofs.KeyLaws.{length_slots, added_numbered, slots_added}
use Rattle.slots.proofs.keyed.Keyed.push.Goals as goal

pub returns-clause-number : goal.returns-clause-number
returns-clause-number g c = rw (← c.self.view_is) (c.new.ensures ∙ sym (length_slots c.self.inside.next c.self.inside.entries.slots))

pub invariant_of-self : goal.invariant_of-self
invariant_of-self g c =
    let added = c.insert_reserved-key.ensures in
    added_numbered c.self.inside.next c.self.inside.entries.slots c.self.invariant c.insert_reserved-key.new.self.slots c.insert_reserved-key.result
    c.args.value added.was_vacant added.updates.others added.updates.changed

pub returns-clause-slots : goal.returns-clause-slots
returns-clause-slots g c =
    let added = c.insert_reserved-key.ensures in
    rw (← c.self.view_is) (slots_added c.self.inside.next c.self.inside.entries.slots c.self.invariant c.insert_reserved-key.new.self.slots
    c.insert_reserved-key.result c.args.value added.was_vacant added.updates.others added.updates.changed)
