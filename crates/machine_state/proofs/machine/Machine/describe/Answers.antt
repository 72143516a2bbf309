use Rattle.std.proofs.Common.{sym, ◌∙◌}
use Rattle.call_types.specs.Descriptions.{described}
use Rattle.posix_model.proofs.ChangeLaws.{stays_open}
use Rattle.machine_state.specs.Held.{stored_in}
use Rattle.machine_state.proofs.UseLaws.{there_values}
use Rattle.machine_state.proofs.StoredLaws.{after_description, description_world}
use Rattle.machine_state.proofs.machine.Machine.describe.Goals as goal

pub describe-requires : goal.describe-requires
describe-requires c = sym (there_values c.self.inside.descriptions.0 c.args.ticket.now) ∙ (rw (← c.self.view_is) at c.requires)

pub invariant_of-self : goal.invariant_of-self
invariant_of-self c = rw c.describe.ensures.slots (after_description (stored_in c.self.inside) c.self.invariant c.args.ticket.now (described c.args.edit)
    (stays_open c.args.edit))

pub returns-clause-world : goal.returns-clause-world
returns-clause-world c = rw (← c.self.view_is, c.describe.ensures.slots) (description_world (stored_in c.self.inside) c.self.invariant c.args.ticket.now
    (described c.args.edit))
