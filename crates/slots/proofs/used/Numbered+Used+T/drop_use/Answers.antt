use Rattle.std.proofs.Common.{refl, ap, arith, sym, ◌∙◌}
use Rattle.std.specs.Vec.{vec_capacity, vec_len}
use Rattle.slots.specs.NumberedSlots.{room_of}
use Rattle.slots.specs.Proved.Uses.{uses_at, one_less}
use Rattle.slots.proofs.EntryLaws.{same_room, one_more_room, more_room, slot_slots, stands, rises_edited, rises_removed, slots_edited, slots_gone, slots_same}
use Rattle.slots.proofs.UseLaws.{more_left, none_left}
use Rattle.slots.proofs.used.Numbered+Used+T.drop_use.Goals as goal

pub returns-in-Err : goal.returns-in-Err
returns-in-Err g c =
    let gone = rw c.as_slice.ensures.value at (c.in-Err.ensures.gone) in
    rw (← c.self.view_is) (record {
      slots = slots_same c.self.inside.next c.self.inside.entries.items c.args.number c.self.invariant one_less gone refl;
      room = same_room (room_of (vec_capacity c.self.inside.entries) (vec_len c.self.inside.entries) c.self.inside.next);
      most = one_more_room (room_of (vec_capacity c.self.inside.entries) (vec_len c.self.inside.entries) c.self.inside.next);
      last = rw (slot_slots c.self.inside.next c.self.inside.entries.items c.args.number c.self.invariant, gone) refl;
    })

pub invariant_of-self : goal.invariant_of-self
invariant_of-self g c =
    let at = rw c.as_slice.ensures.value at (c.in-Ok.ensures.there) in
    rises_edited c.self.inside.next c.self.inside.entries.items c.args.number c.self.invariant c.in-Ok.index c.index_mut.result.now
    _ at c.index_mut.ensures.value

pub returns-then-index-gt1 : goal.returns-then-index-gt1
returns-then-index-gt1 g c =
    let at = rw c.as_slice.ensures.value at (c.in-Ok.ensures.there) in
    let first = stands c.self.inside.next c.self.inside.entries.items c.args.number c.self.invariant c.in-Ok.index c.index.result.now at c.index.ensures in
    let again = stands c.self.inside.next c.self.inside.entries.items c.args.number c.self.invariant c.in-Ok.index
    c.index_mut.result.now at c.index_mut.ensures.value in
    let left = more_left c.index_mut.result.now.1 (omega (arith, ap uses_at (sym first ∙ again), c.if-index-gt1.true)) in
    rw (← c.self.view_is) (record {
      slots = slots_edited c.self.inside.next c.self.inside.entries.items c.args.number c.self.invariant one_less c.in-Ok.index c.index_mut.result.now
          _ at c.index_mut.ensures.value left.slot;
      room = same_room (room_of (vec_capacity c.self.inside.entries) (vec_len c.self.inside.entries) c.self.inside.next);
      most = one_more_room (room_of (vec_capacity c.self.inside.entries) (vec_len c.self.inside.entries) c.self.inside.next);
      last = rw again (sym left.lost);
    })

pub invariant_of-self-2 : goal.invariant_of-self-2
invariant_of-self-2 g c = rw c.remove.ensures.items (rises_removed 0 c.self.inside.entries.items c.self.inside.next c.in-Ok.index c.self.invariant)

pub returns : goal.returns
returns g c =
    let at = rw c.as_slice.ensures.value at (c.in-Ok.ensures.there) in
    let first = stands c.self.inside.next c.self.inside.entries.items c.args.number c.self.invariant c.in-Ok.index c.index.result.now at c.index.ensures in
    let again = stands c.self.inside.next c.self.inside.entries.items c.args.number c.self.invariant c.in-Ok.index c.remove.result at c.remove.ensures.value in
    let last = none_left c.remove.result.1 (λ more. omega (arith, more, ap uses_at (sym first ∙ again), c.if-index-gt1.false)) in
    rw (← c.self.view_is) (record {
      slots = rw c.remove.ensures.items (slots_gone c.self.inside.next c.self.inside.entries.items c.args.number c.self.invariant one_less c.in-Ok.index
          c.remove.result at c.remove.ensures.value last.slot);
      room = (more_room _ _ (vec_len c.self.inside.entries) _ c.self.inside.next c.remove.ensures.capacity c.remove.ensures.len).0;
      most = (more_room _ _ (vec_len c.self.inside.entries) _ c.self.inside.next c.remove.ensures.capacity c.remove.ensures.len).1;
      last = rw again (sym last.lost);
    })
