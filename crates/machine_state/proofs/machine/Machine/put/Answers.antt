use Rattle.std.proofs.Common.{sym, ap, ◌∙◌, length, take, length-take, length-take-le, arith}
use Rattle.call_types.specs.Stored.{span_bytes}
use Rattle.posix_model.specs.Change.{after_those, rest_of}
use Rattle.process_table.specs.Processes.{parked_of}
use Rattle.slots.specs.Slots.{slot}
use Rattle.machine_state.specs.Held.{stored_in}
use Rattle.machine_state.proofs.PipeLaws.{pipes_there}
use Rattle.machine_state.proofs.StoredLaws.{after_written, written_world, fits_ring}
use Rattle.machine_state.proofs.machine.Machine.put.Goals as goal

pub put-requires-clause-there : goal.put-requires-clause-there
put-requires-clause-there c = sym (pipes_there c.self.inside.pipes.0 c.args.pipe) ∙ (rw (← c.self.view_is) at c.requires.there)

pub put-requires-clause-places : goal.put-requires-clause-places
put-requires-clause-places c =
    let holds = rw (← c.self.view_is) at c.requires.holds in
    let room = rw (← c.self.view_is) at c.requires.room in
    let given = rw c.in-Act.is at c.requires.given in
    omega (
      arith,
      ap length c.cut.ensures,
      length-take-le c.args.count (span_bytes c.args.bytes),
      fits_ring (stored_in c.self.inside) c.self.invariant c.args.pipe c.args.count holds room,
    )

pub invariant_of-self : goal.invariant_of-self
invariant_of-self c = rw (c.put.ensures.slots, c.cut.ensures) (after_written (stored_in c.self.inside) c.self.invariant c.args.pipe
    (after_those (take c.args.count (span_bytes c.args.bytes))))

pub put-requires-in-Parked-clause-there : goal.put-requires-in-Parked-clause-there
put-requires-in-Parked-clause-there c = sym (pipes_there c.self.inside.pipes.0 c.args.pipe) ∙ (rw (← c.self.view_is) at c.requires.there)

pub put-requires-in-Parked-clause-places : goal.put-requires-in-Parked-clause-places
put-requires-in-Parked-clause-places c =
    let holds = rw (← c.self.view_is) at c.requires.holds in
    let room = rw (← c.self.view_is) at c.requires.room in
    let rest = rest_of (parked_of (slot c.self.inside.processes.0 c.in-Parked.process)) in
    omega (
      arith,
      ap length c.parked_bytes.ensures,
      length-take c.args.count rest,
      fits_ring (stored_in c.self.inside) c.self.invariant c.args.pipe c.args.count holds room,
    )

pub invariant_of-self-in-Parked : goal.invariant_of-self-in-Parked
invariant_of-self-in-Parked c =
    rw (c.put-in-Parked.ensures.slots, c.parked_bytes.ensures)
    (after_written (stored_in c.self.inside) c.self.invariant c.args.pipe
    (after_those (take c.args.count (rest_of (parked_of (slot c.self.inside.processes.0 c.in-Parked.process))))))

pub returns-in-Act-clause-world : goal.returns-in-Act-clause-world
returns-in-Act-clause-world c =
    rw (← c.self.view_is, c.put.ensures.slots, c.cut.ensures, c.in-Act.is) (written_world (stored_in c.self.inside) c.self.invariant c.args.pipe
    (after_those (take c.args.count (span_bytes c.args.bytes))))

pub returns-in-Parked-clause-world : goal.returns-in-Parked-clause-world
returns-in-Parked-clause-world c =
    rw (← c.self.view_is, c.put-in-Parked.ensures.slots, c.parked_bytes.ensures, c.in-Parked.is)
    (written_world (stored_in c.self.inside) c.self.invariant c.args.pipe
    (after_those (take c.args.count (rest_of (parked_of (slot c.self.inside.processes.0 c.in-Parked.process))))))
