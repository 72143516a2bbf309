use Rattle.std.proofs.Common.{◌≡◌, ◌≤◌, ◌∙◌, refl, ap, sym, arith}
use Rattle.std.proofs.lemmas.Result.{on_ok_weaker}
use Rattle.machine_state.specs.Held.{stored_in}
use Rattle.machine_state.specs.StoredPipes.{pipe_room}
use Rattle.machine_state.specs.Proved.Consistent.{IsConsistent}
use Rattle.machine_state.proofs.PipeLaws.{pipes_there}
use Rattle.machine_state.proofs.StoredLaws.{after_block, block_world, put_room}
use Rattle.machine_state.proofs.machine.Machine.reserve_put.Goals as goal

pub reserve_bytes-requires : goal.reserve_bytes-requires
reserve_bytes-requires c = sym (pipes_there c.self.inside.pipes.0 c.args.pipe) ∙ (rw (← c.self.view_is) at c.requires)

pub invariant_of-self : goal.invariant_of-self
invariant_of-self c = rw c.reserve_bytes.ensures.slots.1 (after_block (stored_in c.self.inside) c.self.invariant c.args.pipe c.reserve_bytes.ensures.slots.0)

pub returns-clause-world : goal.returns-clause-world
returns-clause-world c = rw (← c.self.view_is, c.reserve_bytes.ensures.slots.1)
    (block_world (stored_in c.self.inside) c.self.invariant c.args.pipe c.reserve_bytes.ensures.slots.0)

pub returns-clause-room : goal.returns-clause-room
returns-clause-room c =
    let after = record (stored_in c.self.inside) { pipes = c.reserve_bytes.new.self.0 } in
    let all : IsConsistent after = rw c.reserve_bytes.ensures.slots.1
    (after_block (stored_in c.self.inside) c.self.invariant c.args.pipe c.reserve_bytes.ensures.slots.0) in
    on_ok_weaker c.reserve_bytes.result (put_room after all c.args.pipe c.args.count) c.reserve_bytes.ensures.places

pub returns-clause-kept : goal.returns-clause-kept
returns-clause-kept c =
    let spare = c.self.inside.spare in
    let same : pipe_room c.reserve_bytes.new.self.1 spare ≡ pipe_room c.self.inside.pipes.1 spare =
    ap (λ places. pipe_room places spare) c.reserve_bytes.ensures.room in
    let pipes : pipe_room c.self.inside.pipes.1 spare ≤ pipe_room c.reserve_bytes.new.self.1 spare = omega (arith, same) in
    rw (← c.self.view_is) (record {
      files = omega arith;
      pipes = pipes;
      descriptions = omega arith;
      processes = omega arith;
      names = omega arith;
      bytes = λ file. record { kept = λ k. record { low = λ i from below. from; high = λ i from below. below } };
      blocks = c.reserve_bytes.ensures.kept;
      capacity = refl;
    })
