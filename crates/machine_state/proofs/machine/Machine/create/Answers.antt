use Rattle.std.proofs.Common.{refl}
use Rattle.machine_state.specs.Held.{stored_in}
use Rattle.machine_state.proofs.StoredLaws.{after_create}
use Rattle.machine_state.proofs.machine.Machine.create.Goals as goal

pub invariant_of-self : goal.invariant_of-self
invariant_of-self c =
    let new = rw (← c.self.view_is) at c.requires.new in
    let few = rw (← c.self.view_is) at c.requires.few in
    rw (c.create.ensures.slots, c.add.ensures, c.next-file.ensures)
    (after_create (stored_in c.self.inside) c.self.invariant c.args.name (record { body = c.args.body; links = 1 }) refl c.requires.closed new few)
