use Rattle.std.proofs.Common.{sym, ◌∙◌, arith}
use Rattle.machine_state.specs.Held.{stored_in}
use Rattle.machine_state.proofs.UseLaws.{there_values}
use Rattle.machine_state.proofs.StoredLaws.{few_references}
use Rattle.machine_state.proofs.ProcessLaws.{after_add, added_world}
use Rattle.machine_state.proofs.machine.Machine.add_process.Goals as goal

pub hold_entries-requires-clause-there : goal.hold_entries-requires-clause-there
hold_entries-requires-clause-there c =
    let can = rw (← c.self.view_is) at c.requires.fits in
    rw c.entries.ensures (λ k n is. sym (there_values c.self.inside.descriptions.0 n) ∙ can.there k n is)

pub hold_entries-requires-clause-few : goal.hold_entries-requires-clause-few
hold_entries-requires-clause-few c = λ n.
    rw c.entries.ensures (omega (arith, few_references (stored_in c.self.inside) c.self.invariant n, c.requires.fits.all))

pub invariant_of-self : goal.invariant_of-self
invariant_of-self c =
    let can = rw (← c.self.view_is) at c.requires.fits in
    let few = rw (← c.self.view_is) at c.requires.few in
    rw (c.add.ensures.slots, c.new.ensures, c.hold_entries.ensures.slots, c.entries.ensures)
    (after_add (stored_in c.self.inside) c.self.invariant c.args.table c.args.attached can few)

pub returns-clause-world : goal.returns-clause-world
returns-clause-world c =
    rw (← c.self.view_is, c.add.ensures.slots, c.new.ensures, c.hold_entries.ensures.slots, c.entries.ensures)
    (added_world (stored_in c.self.inside) c.self.invariant c.args.table c.args.attached)
