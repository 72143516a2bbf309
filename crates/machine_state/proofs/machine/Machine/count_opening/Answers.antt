use Rattle.machine_state.specs.Held.{stored_in}
use Rattle.machine_state.proofs.OpenLaws.{after_opening, opening_world}
use Rattle.machine_state.proofs.machine.Machine.count_opening.Goals as goal

pub invariant_of-self : goal.invariant_of-self
invariant_of-self c =
    let opens = rw (← c.self.view_is) at c.requires.opens in
    rw c.count_opening.ensures.slots (after_opening (stored_in c.self.inside) c.self.invariant c.args.file c.args.mode c.args.pipe opens)

pub returns-clause-world : goal.returns-clause-world
returns-clause-world c = rw (← c.self.view_is, c.count_opening.ensures.slots)
    (opening_world (stored_in c.self.inside) c.self.invariant c.args.file c.args.mode c.args.pipe)
