use Rattle.std.proofs.Common.{◌≡◌, true, false, refl}
use Rattle.slots.proofs.KeyLaws.{slot_slots, stands_at, edited_numbered, seen_edited}
use Rattle.slots.proofs.keyed.Keyed.value_mut.Goals as goal

pub invariant_of-self-lent : goal.invariant_of-self-lent
invariant_of-self-lent g c w =
    edited_numbered c.self.inside.next c.self.inside.entries.slots c.args.ticket.now c.key-key.result c.self.invariant
    (c.hits.ensures c.if-hits.true) c.index_mut.result.now c.index_mut.ensures.value w

pub returns-then-hits : goal.returns-then-hits
returns-then-hits g c =
    let at = c.hits.ensures c.if-hits.true in
    let here = stands_at c.self.inside.next c.self.inside.entries.slots c.args.ticket.now c.key-key.result c.self.invariant at c.index_mut.result.now
    c.index_mut.ensures.value in (
      (
        refl,
        λ w. rw (← c.self.view_is) (seen_edited c.self.inside.next c.self.inside.entries.slots c.args.ticket.now c.key-key.result
            c.self.invariant at c.index_mut.result.now c.index_mut.ensures.value w c.self.inside.entries.capacity),
      ),
      record { writes_back = tt; value = rw (← c.self.view_is) here },
    )

pub unreachable-requires : goal.unreachable-requires
unreachable-requires g c =
    let gone = rw c.number.ensures at c.in-None.ensures.gone in
    let bad : false ≡ true = rw (
      ← c.self.view_is,
      slot_slots c.self.inside.next c.self.inside.entries.slots c.args.ticket.now c.self.invariant,
      gone,
    ) at c.requires in
    cc

pub invariant_of-self-lent-2 : goal.invariant_of-self-lent-2
invariant_of-self-lent-2 g c w =
    let at = rw c.number.ensures at c.in-Some.ensures.there in
    edited_numbered c.self.inside.next c.self.inside.entries.slots c.args.ticket.now c.in-Some.key c.self.invariant at c.index_mut-in-Some.result.now
    c.index_mut-in-Some.ensures.value w

pub returns : goal.returns
returns g c =
    let at = rw c.number.ensures at c.in-Some.ensures.there in
    let here = stands_at c.self.inside.next c.self.inside.entries.slots c.args.ticket.now c.in-Some.key c.self.invariant at c.index_mut-in-Some.result.now
    c.index_mut-in-Some.ensures.value in (
      (
        refl,
        λ w. rw (← c.self.view_is)
            (seen_edited c.self.inside.next c.self.inside.entries.slots c.args.ticket.now c.in-Some.key c.self.invariant at c.index_mut-in-Some.result.now
            c.index_mut-in-Some.ensures.value w c.self.inside.entries.capacity),
      ),
      record { writes_back = tt; value = rw (← c.self.view_is) here },
    )
