use Rattle.std.proofs.Common.{◌∙◌, sym}
use Rattle.slots.specs.Proved.Keys.{HasNumber}
use Rattle.slots.proofs.KeyLaws.{slot_slots, stands_at}
use Rattle.slots.proofs.keyed.Keyed.get.Goals as goal

pub returns-then-entry-number : goal.returns-then-entry-number
returns-then-entry-number g c =
    let hit : HasNumber {T = g.row.T.Denot} c.self.inside.entries.slots c.key.result c.args.ticket.now = record {
      entry = c.in-Some.entry.now;
      there = sym c.in-Some.ensures;
      number = c.if-entry-number.true ∙ c.number.ensures;
    } in
    rw (← c.self.view_is) (sym (stands_at c.self.inside.next c.self.inside.entries.slots c.args.ticket.now c.key.result c.self.invariant hit c.in-Some.entry.now
    (sym c.in-Some.ensures)))

pub returns-in-Some-search : goal.returns-in-Some-search
returns-in-Some-search g c =
    let at = rw c.number-2.ensures at c.in-Some-search.ensures.there in
    rw (← c.self.view_is) (sym (stands_at c.self.inside.next c.self.inside.entries.slots c.args.ticket.now c.in-Some-search.key
    c.self.invariant at c.index.result.now c.index.ensures))

pub returns-in-None : goal.returns-in-None
returns-in-None g c =
    let gone = rw c.number-2.ensures at c.in-None.ensures.gone in
    rw (← c.self.view_is, slot_slots c.self.inside.next c.self.inside.entries.slots c.args.ticket.now c.self.invariant) (sym gone)
