use Rattle.std.proofs.Common.{refl}
use Rattle.process_table.specs.Processes.{with_connection}
use Rattle.machine_state.specs.Held.{stored_in}
use Rattle.machine_state.proofs.ProcessLaws.{after_process}
use Rattle.machine_state.proofs.machine.Machine.attach.Goals as goal

pub invariant_of-self : goal.invariant_of-self
invariant_of-self c = rw c.attach.ensures.slots (after_process (stored_in c.self.inside) c.self.invariant c.args.process with_connection (λ x. refl))
