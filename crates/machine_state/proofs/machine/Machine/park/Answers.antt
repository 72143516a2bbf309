use Rattle.std.proofs.Common.{Some, refl}
use Rattle.process_table.specs.Processes.{with_parked}
use Rattle.machine_state.specs.Held.{stored_in}
use Rattle.machine_state.proofs.ProcessLaws.{after_process}
use Rattle.machine_state.proofs.machine.Machine.park.Goals as goal

pub invariant_of-self : goal.invariant_of-self
invariant_of-self c = rw c.park.ensures.slots (after_process (stored_in c.self.inside) c.self.invariant c.args.process (with_parked (Some c.args.parked))
    (λ x. refl))
