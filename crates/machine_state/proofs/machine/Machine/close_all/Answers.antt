use Rattle.std.proofs.Common.{◌≡◌, ◌∙◌, ℕ, suc, ◌+◌, ◌≤◌, ◌<◌, None, refl, ap, sym, arith}
use Rattle.call_types.specs.declared.limits.TheConstants.{OPEN_MAX}
use Rattle.slots.specs.Slots.{slot}
use Rattle.process_table.specs.Processes.{table_of}
use Rattle.posix_model.specs.Sweep.{sweep}
use Rattle.posix_model.specs.Proved.Drops.{closed_below}
use Rattle.posix_model.specs.Descriptors.{with_descriptor}
use Rattle.machine_state.proofs.ProcessLaws.{still_there, closed_to}
use Rattle.machine_state.proofs.DropLaws.{swept_theirs}
use Rattle.machine_state.proofs.machine.Machine.close_all.Goals as goal

one_more : (n : ℕ) → n + 1 ≡ suc n
one_more n = omega arith

pub loop-fd-init : goal.loop-fd-init
loop-fd-init c = record {
  world = refl;
  below = omega arith;
  settled = c.sweep_releases.ensures.stays c.args.self.now.world c.is_settled.ensures.settled;
  there = c.requires.there;
  theirs = c.requires.theirs;
  capacity = refl;
}

pub loop-fd-preserved : goal.loop-fd-preserved
loop-fd-preserved c =
    let w = c.loop-fd.self.world in
    let v = with_descriptor w c.args.process c.in-Some.fd None in
    let next = c.in-Some.ensures.least in
    let free : (k : ℕ) → c.loop-fd.from ≤ k → k < c.in-Some.fd → slot (table_of (slot w.processes c.args.process)) k ≡ None =
    rw (← c.self-in-loop-fd.view_is) next.least in
    let closed = closed_to c.args.process c.loop-fd.from c.in-Some.fd c.args.self.now.world w next.after c.loop-fd.invariant.world c.loop-fd.invariant.settled
    free in
    record {
      world =
          c.close_one.ensures.world ∙ ap (λ u. sweep (with_descriptor u c.args.process c.in-Some.fd None)) (sym closed) ∙
          sym (ap (λ n. closed_below c.args.process n c.args.self.now.world) (one_more c.in-Some.fd));
      below = omega (arith, c.in-Some.ensures.within);
      settled = rw c.close_one.ensures.world (c.sweep_settles.ensures.sweep v);
      there = rw c.close_one.ensures.world (still_there w.processes c.args.process c.in-Some.fd None c.loop-fd.invariant.there);
      theirs = rw c.close_one.ensures.world (swept_theirs v (sweep v) (c.sweep_leaves_wanted.ensures v) c.loop-fd.invariant.theirs);
      capacity = c.close_one.ensures.capacity ∙ c.loop-fd.invariant.capacity;
    }

pub returns-clause-world : goal.returns-clause-world
returns-clause-world c =
    let w = c.loop-fd.self.world in
    let free : (k : ℕ) → c.loop-fd.from ≤ k → slot (table_of (slot w.processes c.args.process)) k ≡ None =
    rw (← c.self-in-loop-fd.view_is) c.in_default.ensures.none in
    sym
    (closed_to c.args.process c.loop-fd.from OPEN_MAX c.args.self.now.world w c.loop-fd.invariant.below c.loop-fd.invariant.world c.loop-fd.invariant.settled
    (λ k after below. free k after))
