use Rattle.std.proofs.Common.{refl}
use Rattle.machine_state.specs.Held.{stored_in}
use Rattle.machine_state.proofs.LentLaws.{regular_lends, bytes_lent, files_lent, room_lent}
use Rattle.machine_state.proofs.StoredLaws.{after_lending}
use Rattle.machine_state.proofs.machine.Machine.write_bytes.Goals as goal

pub extents_mut-requires : goal.extents_mut-requires
extents_mut-requires c = regular_lends c.self.inside.files.0 c.args.file (rw (← c.self.view_is) at c.requires.there)

pub write_at-requires-clause-room : goal.write_at-requires-clause-room
write_at-requires-clause-room c =
    rw (← c.self.view_is, room_lent c.self.inside.files.0 c.args.file c.extents_mut.result.now c.extents_mut.ensures.value) at c.requires.room

pub invariant_of-self : goal.invariant_of-self
invariant_of-self c = after_lending (stored_in c.self.inside) c.self.invariant c.args.file c.write_at.new.self

pub returns-clause-world : goal.returns-clause-world
returns-clause-world c = rw (
  ← c.self.view_is,
  files_lent c.self.inside.files.0 c.args.file c.extents_mut.result.now c.write_at.new.self c.extents_mut.ensures.value,
  c.write_at.ensures.bytes,
  bytes_lent c.self.inside.files.0 c.args.file c.extents_mut.result.now c.extents_mut.ensures.value,
) refl
