use Rattle.std.proofs.Common.{None, take, length-take-le, refl, sym, arith, ◌∙◌}
use Rattle.std.proofs.lemmas.List.{take_more, get_or_default}
use Rattle.machine_state.proofs.UseLaws.{there_uses, most_uses, uses_push}
use Rattle.machine_state.proofs.entries.hold_entries.Goals as goal

pub hold_entry-requires-clause-there : goal.hold_entry-requires-clause-there
hold_entry-requires-clause-there c = λ n is.
    let item = get_or_default c.args.entries.now c.loop-entry.entry-index None c.entry-item.result c.loop-entry-test.true ∙ sym c.entry-item.is in
    rw c.loop-entry.invariant.slots (there_uses (take c.loop-entry.entry-index c.args.entries.now) c.args.table.now.0 n
    (c.requires.there c.loop-entry.entry-index n (item ∙ is)))

pub hold_entry-requires-clause-few : goal.hold_entry-requires-clause-few
hold_entry-requires-clause-few c = λ n.
    let so_far = take c.loop-entry.entry-index c.args.entries.now in
    rw c.loop-entry.invariant.slots (omega (
      arith,
      most_uses so_far c.args.table.now.0 n,
      length-take-le c.loop-entry.entry-index c.args.entries.now,
      c.requires.few n,
    ))

pub loop-entry-preserved : goal.loop-entry-preserved
loop-entry-preserved c =
    let k = c.loop-entry.entry-index in
    let item = get_or_default c.args.entries.now k None c.entry-item.result c.loop-entry-test.true ∙ sym c.entry-item.is in
    record {
      slots = rw (c.hold_entry.ensures.slots, c.loop-entry.invariant.slots, take_more c.args.entries.now k None c.loop-entry-test.true, item)
          (sym (uses_push (take k c.args.entries.now) c.entry-item.result c.args.table.now.0));
      room = rw (c.hold_entry.ensures.room, c.loop-entry.invariant.room) refl;
    }
