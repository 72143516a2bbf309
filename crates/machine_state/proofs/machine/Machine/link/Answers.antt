use Rattle.std.proofs.Common.{arith, ap, sym, ◌∙◌}
use Rattle.file_table.specs.Proved.Files.{links_at}
use Rattle.machine_state.specs.Held.{stored_in}
use Rattle.machine_state.proofs.UseLaws.{slot_values}
use Rattle.machine_state.proofs.FileLaws.{files_there}
use Rattle.machine_state.proofs.StoredLaws.{few_holders, few_links, after_link, linked_world}
use Rattle.machine_state.proofs.machine.Machine.link.Goals as goal

pub add_link-requires-clause-there : goal.add_link-requires-clause-there
add_link-requires-clause-there c = sym (files_there c.self.inside.files.0 c.args.file) ∙ (rw (← c.self.view_is) at c.requires.there)

pub add_link-requires-clause-few : goal.add_link-requires-clause-few
add_link-requires-clause-few c = omega (arith, few_holders (stored_in c.self.inside) c.self.invariant c.args.file)

pub add_link-requires-clause-few_links : goal.add_link-requires-clause-few_links
add_link-requires-clause-few_links c = omega (
  arith,
  ap links_at (slot_values c.self.inside.files.0 c.args.file),
  few_links (stored_in c.self.inside) c.self.invariant c.args.file,
)

pub invariant_of-self : goal.invariant_of-self
invariant_of-self c =
    let new = rw (← c.self.view_is) at c.requires.new in
    let there = rw (← c.self.view_is) at c.requires.there in
    let few = rw (← c.self.view_is) at c.requires.few in
    rw (c.add.ensures, c.add_link.ensures.slots) (after_link (stored_in c.self.inside) c.self.invariant c.args.name c.args.file new there few)

pub returns-clause-world : goal.returns-clause-world
returns-clause-world c = rw (← c.self.view_is, c.add.ensures, c.add_link.ensures.slots)
    (linked_world (stored_in c.self.inside) c.self.invariant c.args.name c.args.file)
