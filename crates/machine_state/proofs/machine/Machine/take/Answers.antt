use Rattle.std.proofs.Common.{sym, ◌∙◌, drop}
use Rattle.machine_state.specs.Held.{stored_in}
use Rattle.machine_state.proofs.PipeLaws.{pipes_there}
use Rattle.machine_state.proofs.StoredLaws.{after_written, written_world}
use Rattle.machine_state.proofs.machine.Machine.take.Goals as goal

pub take-requires : goal.take-requires
take-requires c = sym (pipes_there c.self.inside.pipes.0 c.args.pipe) ∙ (rw (← c.self.view_is) at c.requires)

pub invariant_of-self : goal.invariant_of-self
invariant_of-self c = rw c.take.ensures.slots (after_written (stored_in c.self.inside) c.self.invariant c.args.pipe (drop c.args.count))

pub returns-clause-world : goal.returns-clause-world
returns-clause-world c = rw (← c.self.view_is, c.take.ensures.slots) (written_world (stored_in c.self.inside) c.self.invariant c.args.pipe (drop c.args.count))
