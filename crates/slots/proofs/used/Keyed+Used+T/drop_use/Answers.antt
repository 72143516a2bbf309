use Rattle.std.proofs.Common.{◌∙◌, refl, sym, ap, arith}
use Rattle.slots.specs.Proved.Uses.{uses_at}
use Rattle.slots.proofs.KeyLaws.{slot_slots, stands_at, edited_numbered, slots_edited, slots_removed, slots_absent}
use Rattle.slots.proofs.UseLaws.{more_left, none_left}
use Rattle.slots.proofs.used.Keyed+Used+T.drop_use.Goals as goal

pub returns-in-None-clause-slots : goal.returns-in-None-clause-slots
returns-in-None-clause-slots g c =
    let es = c.self.inside.entries.slots in
    rw (← c.self.view_is, slot_slots c.self.inside.next es c.args.ticket.now c.self.invariant, c.in-None.ensures.gone)
    (slots_absent c.self.inside.next es c.self.invariant c.args.ticket.now c.in-None.ensures.gone)

pub returns-in-None-clause-last : goal.returns-in-None-clause-last
returns-in-None-clause-last g c = rw (
  ← c.self.view_is,
  slot_slots c.self.inside.next c.self.inside.entries.slots c.args.ticket.now c.self.invariant,
  c.in-None.ensures.gone,
) refl

pub invariant_of-self : goal.invariant_of-self
invariant_of-self g c =
    edited_numbered c.self.inside.next c.self.inside.entries.slots c.args.ticket.now c.in-Some.key c.self.invariant c.in-Some.ensures.there
    c.index_mut.result.now c.index_mut.ensures.value _

pub returns-then-index-gt1-clause-slots : goal.returns-then-index-gt1-clause-slots
returns-then-index-gt1-clause-slots g c =
    let first = stands_at c.self.inside.next c.self.inside.entries.slots c.args.ticket.now c.in-Some.key c.self.invariant c.in-Some.ensures.there
    c.index.result.now c.index.ensures in
    let again = stands_at c.self.inside.next c.self.inside.entries.slots c.args.ticket.now c.in-Some.key c.self.invariant c.in-Some.ensures.there
    c.index_mut.result.now c.index_mut.ensures.value in
    let left = more_left c.index_mut.result.now.value (omega (arith, ap uses_at (sym first ∙ again), c.if-index-gt1.true)) in
    rw (← c.self.view_is, again, left.slot) (slots_edited c.self.inside.next c.self.inside.entries.slots c.args.ticket.now c.in-Some.key c.self.invariant
    c.in-Some.ensures.there c.index_mut.result.now c.index_mut.ensures.value _)

pub returns-then-index-gt1-clause-last : goal.returns-then-index-gt1-clause-last
returns-then-index-gt1-clause-last g c =
    let first = stands_at c.self.inside.next c.self.inside.entries.slots c.args.ticket.now c.in-Some.key c.self.invariant c.in-Some.ensures.there
    c.index.result.now c.index.ensures in
    rw (← c.self.view_is, first) (sym (more_left c.index.result.now.value c.if-index-gt1.true).lost)

pub returns-clause-slots : goal.returns-clause-slots
returns-clause-slots g c =
    let first = stands_at c.self.inside.next c.self.inside.entries.slots c.args.ticket.now c.in-Some.key c.self.invariant c.in-Some.ensures.there
    c.index.result.now c.index.ensures in
    let last = none_left c.index.result.now.value (λ more. omega (arith, more, c.if-index-gt1.false)) in
    rw (← c.self.view_is, first, last.slot)
    (slots_removed c.self.inside.next c.self.inside.entries.slots c.args.ticket.now c.in-Some.key c.self.invariant c.in-Some.ensures.there
    c.remove.new.self.slots c.remove.ensures.updates.others c.remove.ensures.updates.changed)

pub returns-clause-last : goal.returns-clause-last
returns-clause-last g c =
    let first = stands_at c.self.inside.next c.self.inside.entries.slots c.args.ticket.now c.in-Some.key c.self.invariant c.in-Some.ensures.there
    c.index.result.now c.index.ensures in
    let again = stands_at c.self.inside.next c.self.inside.entries.slots c.args.ticket.now c.in-Some.key c.self.invariant c.in-Some.ensures.there
    c.remove.result c.remove.ensures.value in
    rw (← c.self.view_is, again) (sym (none_left c.remove.result.value
    (λ more. omega (arith, more, ap uses_at (sym first ∙ again), c.if-index-gt1.false))).lost)
