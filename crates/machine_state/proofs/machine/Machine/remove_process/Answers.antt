use Rattle.machine_state.specs.Held.{stored_in}
use Rattle.machine_state.proofs.ProcessLaws.{after_remove}
use Rattle.machine_state.proofs.machine.Machine.remove_process.Goals as goal

pub invariant_of-self : goal.invariant_of-self
invariant_of-self c =
    let bare = rw (← c.self.view_is) at c.requires in
    rw c.remove.ensures.slots (after_remove (stored_in c.self.inside) c.self.invariant c.args.process bare)
