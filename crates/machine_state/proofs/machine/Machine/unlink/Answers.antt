use Rattle.machine_state.specs.Held.{stored_in}
use Rattle.machine_state.proofs.DropLaws.{some_link, after_unlink}
use Rattle.machine_state.proofs.machine.Machine.unlink.Goals as goal

pub drop_link-requires : goal.drop_link-requires
drop_link-requires c =
    let fewer = rw c.remove.ensures.entries at c.in-Some.ensures.links in
    some_link (stored_in c.self.inside) c.self.invariant c.args.name.now c.in-Some.file fewer

pub invariant_of-self : goal.invariant_of-self
invariant_of-self c =
    let fewer = rw c.remove.ensures.entries at c.in-Some.ensures.links in
    rw (c.drop_link.ensures.slots, c.remove.ensures.entries)
    (after_unlink (stored_in c.self.inside) c.self.invariant c.args.name.now c.in-Some.file fewer c.sweep_releases.ensures.names).consistent

pub returns-clause-world : goal.returns-clause-world
returns-clause-world c =
    let fewer = rw c.remove.ensures.entries at c.in-Some.ensures.links in
    rw (← c.self.view_is, c.drop_link.ensures.slots, c.remove.ensures.entries)
    (after_unlink (stored_in c.self.inside) c.self.invariant c.args.name.now c.in-Some.file fewer c.sweep_releases.ensures.names).world
