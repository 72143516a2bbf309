use Rattle.std.proofs.Common.{◌≡◌, true, false, Some, refl, ap}
use Rattle.std.specs.Vec.{vec_capacity, vec_len}
use Rattle.slots.specs.NumberedSlots.{room_of}
use Rattle.slots.proofs.EntryLaws.{slot_slots, stands, rises_edited, slots_edited}
use Rattle.slots.proofs.numbered.Numbered.value_mut.Goals as goal

pub unreachable-requires : goal.unreachable-requires
unreachable-requires g c =
    let gone = rw c.as_slice.ensures.value at (c.in-Err.ensures.gone) in
    let bad : false ≡ true = rw (
      ← c.self.view_is,
      slot_slots c.self.inside.next c.self.inside.entries.items c.args.number c.self.invariant,
      gone,
    ) at c.requires in
    cc

pub invariant_of-self-lent : goal.invariant_of-self-lent
invariant_of-self-lent g c w =
    let at = rw c.as_slice.ensures.value at (c.in-Ok.ensures.there) in
    rises_edited c.self.inside.next c.self.inside.entries.items c.args.number c.self.invariant c.in-Ok.index c.index_mut.result.now
    w at c.index_mut.ensures.value

pub returns : goal.returns
returns g c =
    let at = rw c.as_slice.ensures.value at (c.in-Ok.ensures.there) in
    let here = stands c.self.inside.next c.self.inside.entries.items c.args.number c.self.invariant c.in-Ok.index
    c.index_mut.result.now at c.index_mut.ensures.value in (
      (
        refl,
        λ w. rw (← c.self.view_is)
            (ap (λ xs. (xs, room_of (vec_capacity c.self.inside.entries) (vec_len c.self.inside.entries) c.self.inside.next))
            (slots_edited c.self.inside.next c.self.inside.entries.items c.args.number c.self.invariant (λ _. Some w) c.in-Ok.index c.index_mut.result.now
            w at c.index_mut.ensures.value refl)),
      ),
      record { writes_back = tt; value = rw (← c.self.view_is) here },
    )
