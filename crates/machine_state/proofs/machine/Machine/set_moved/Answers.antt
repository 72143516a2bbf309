use Rattle.std.proofs.Common.{refl}
use Rattle.process_table.specs.Processes.{with_total}
use Rattle.machine_state.specs.Held.{stored_in}
use Rattle.machine_state.proofs.ProcessLaws.{after_process}
use Rattle.machine_state.proofs.machine.Machine.set_moved.Goals as goal

pub invariant_of-self : goal.invariant_of-self
invariant_of-self c = rw c.set_moved.ensures.slots (after_process (stored_in c.self.inside) c.self.invariant c.args.process (with_total c.args.moved)
    (λ x. refl))
