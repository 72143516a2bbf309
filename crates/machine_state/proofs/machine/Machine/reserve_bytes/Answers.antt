use Rattle.std.proofs.Common.{refl, ap, arith}
use Rattle.machine_state.specs.Held.{stored_in}
use Rattle.machine_state.proofs.LentLaws.{regular_lends, files_kept, room_left, rooms_left}
use Rattle.machine_state.proofs.StoredLaws.{after_lending}
use Rattle.machine_state.proofs.machine.Machine.reserve_bytes.Goals as goal

pub extents_mut-requires : goal.extents_mut-requires
extents_mut-requires c = regular_lends c.self.inside.files.0 c.args.file (rw (← c.self.view_is) at c.requires.there)

pub invariant_of-self : goal.invariant_of-self
invariant_of-self c = after_lending (stored_in c.self.inside) c.self.invariant c.args.file c.reserve_for.new.self

pub returns-clause-world : goal.returns-clause-world
returns-clause-world c =
    rw (files_kept c.self.inside.files.0 c.args.file c.extents_mut.result.now c.reserve_for.new.self c.extents_mut.ensures.value c.reserve_for.ensures.bytes)
    (ap (λ m. m.world) c.self.view_is)

pub returns-clause-room : goal.returns-clause-room
returns-clause-room c =
    rw (room_left c.self.inside.files.0 c.args.file c.extents_mut.result.now c.reserve_for.new.self c.extents_mut.ensures.value) c.reserve_for.ensures.room

pub returns-clause-kept : goal.returns-clause-kept
returns-clause-kept c =
    rw (← c.self.view_is) (record {
      files = omega arith;
      pipes = omega arith;
      descriptions = omega arith;
      processes = omega arith;
      names = omega arith;
      bytes = rooms_left c.self.inside.files.0 c.args.file c.extents_mut.result.now c.reserve_for.new.self c.extents_mut.ensures.value
          c.reserve_for.ensures.kept;
      blocks = λ pipe. omega arith;
      capacity = refl;
    })
