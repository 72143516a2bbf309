use Rattle.std.proofs.Common.{◌≡◌, Some, arith, sym, ◌∙◌}
use Rattle.machine_state.specs.Held.{stored_in}
use Rattle.machine_state.proofs.FileLaws.{files_there}
use Rattle.machine_state.proofs.StoredLaws.{few_holders}
use Rattle.machine_state.proofs.OpenLaws.{after_first, first_world}
use Rattle.machine_state.proofs.machine.Machine.open_first.Goals as goal

pub hold_file-requires-clause-there : goal.hold_file-requires-clause-there
hold_file-requires-clause-there c =
    let there = rw (← c.self.view_is) at c.requires.there in
    rw c.file_of_target-file.ensures (λ n is. sym (files_there c.self.inside.files.0 n) ∙ there n is)

pub hold_file-requires-clause-few : goal.hold_file-requires-clause-few
hold_file-requires-clause-few c = λ n. omega (arith, few_holders (stored_in c.self.inside) c.self.invariant n)

pub invariant_of-self : goal.invariant_of-self
invariant_of-self c =
    let stands_by : c.self.inside.spare ≡ Some c.in-Some.ring = cc in
    let free = rw (← c.self.view_is) at c.requires.free in
    let on_next = rw (← c.self.view_is) at c.requires.on_next in
    let there = rw (← c.self.view_is) at c.requires.there in
    let few = rw (← c.self.view_is) at c.requires.few in
    rw (
      c.set_fd.ensures.slots,
      c.add-ticket.ensures.slots,
      c.add.ensures.slots,
      c.take.ensures.after,
      c.hold_file.ensures,
      c.file_of_target-file.ensures,
      c.add-ticket.ensures.number,
    )
    (after_first (stored_in c.self.inside) c.self.invariant c.in-Some.ring c.args.process c.args.fd c.args.description stands_by free on_next there few)

pub returns-clause-world : goal.returns-clause-world
returns-clause-world c =
    let stands_by : c.self.inside.spare ≡ Some c.in-Some.ring = cc in
    rw (
      ← c.self.view_is,
      c.set_fd.ensures.slots,
      c.add-ticket.ensures.slots,
      c.add.ensures.slots,
      c.hold_file.ensures,
      c.file_of_target-file.ensures,
      c.add-ticket.ensures.number,
    )
    (first_world (stored_in c.self.inside) c.self.invariant c.in-Some.ring c.args.process c.args.fd c.args.description stands_by)
