use Rattle.std.proofs.Common.{arith, ap}
use Rattle.machine_state.specs.Held.{stored_in}
use Rattle.pipe_table.specs.Proved.Pipes.{readers_at, writers_at}
use Rattle.machine_state.proofs.UseLaws.{slot_values}
use Rattle.machine_state.proofs.StoredLaws.{few_holders, few_ends}
use Rattle.machine_state.proofs.OpenLaws.{target_there, pipe_there, after_open, opened_world}
use Rattle.machine_state.proofs.machine.Machine.open.Goals as goal

pub hold_file-requires-clause-there : goal.hold_file-requires-clause-there
hold_file-requires-clause-there c =
    let can = rw (← c.self.view_is) at c.requires.fits in
    rw c.file_of_target.ensures (target_there (stored_in c.self.inside) c.self.invariant c.args.description.target can.there)

pub hold_file-requires-clause-few : goal.hold_file-requires-clause-few
hold_file-requires-clause-few c = λ n. omega (arith, few_holders (stored_in c.self.inside) c.self.invariant n)

pub add_end-requires-clause-there : goal.add_end-requires-clause-there
add_end-requires-clause-there c =
    let can = rw (← c.self.view_is) at c.requires.fits in
    rw c.pipe_of_target.ensures (pipe_there (stored_in c.self.inside) c.self.invariant c.args.description.target can.there)

pub add_end-requires-clause-few : goal.add_end-requires-clause-few
add_end-requires-clause-few c = λ n. omega (arith, (few_ends (stored_in c.self.inside) c.self.invariant n).uses)

pub add_end-requires-clause-few_readers : goal.add_end-requires-clause-few_readers
add_end-requires-clause-few_readers c = λ n. omega (
  arith,
  (few_ends (stored_in c.self.inside) c.self.invariant n).readers,
  ap readers_at (slot_values c.self.inside.pipes.0 n),
)

pub add_end-requires-clause-few_writers : goal.add_end-requires-clause-few_writers
add_end-requires-clause-few_writers c = λ n. omega (
  arith,
  (few_ends (stored_in c.self.inside) c.self.invariant n).writers,
  ap writers_at (slot_values c.self.inside.pipes.0 n),
)

pub invariant_of-self : goal.invariant_of-self
invariant_of-self c =
    let can = rw (← c.self.view_is) at c.requires.fits in
    let few = rw (← c.self.view_is) at c.requires.few in
    rw (
      c.set_fd.ensures.slots,
      c.add-ticket.ensures.slots,
      c.add_end.ensures.slots,
      c.pipe_of_target.ensures,
      c.hold_file.ensures,
      c.file_of_target.ensures,
      c.add-ticket.ensures.number,
    )
    (after_open (stored_in c.self.inside) c.self.invariant c.args.process c.args.fd c.args.description can few)

pub returns-clause-world : goal.returns-clause-world
returns-clause-world c =
    rw (
      ← c.self.view_is,
      c.set_fd.ensures.slots,
      c.add-ticket.ensures.slots,
      c.add_end.ensures.slots,
      c.pipe_of_target.ensures,
      c.hold_file.ensures,
      c.file_of_target.ensures,
      c.add-ticket.ensures.number,
    )
    (opened_world (stored_in c.self.inside) c.self.invariant c.args.process c.args.fd c.args.description)
