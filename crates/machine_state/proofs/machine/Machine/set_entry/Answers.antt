use Rattle.std.proofs.Common.{arith, sym, ◌∙◌}
use Rattle.machine_state.specs.Held.{stored_in}
use Rattle.machine_state.proofs.UseLaws.{there_values}
use Rattle.machine_state.proofs.StoredLaws.{few_references}
use Rattle.machine_state.proofs.DropLaws.{can_leave, is_set}
use Rattle.machine_state.proofs.machine.Machine.set_entry.Goals as goal

pub hold_entry-requires-clause-there : goal.hold_entry-requires-clause-there
hold_entry-requires-clause-there c =
    let can = rw (← c.self.view_is) at c.requires.fits in
    λ n is. sym (there_values c.self.inside.descriptions.0 n) ∙ can.there n is

pub hold_entry-requires-clause-few : goal.hold_entry-requires-clause-few
hold_entry-requires-clause-few c = λ n. omega (arith, few_references (stored_in c.self.inside) c.self.invariant n)

pub release-requires : goal.release-requires
release-requires c =
    let can = rw (← c.self.view_is) at c.requires.fits in
    rw (c.drop_entry-dropped.ensures.told, c.set_fd-old.ensures.old, c.hold_entry.ensures.slots)
    (can_leave (stored_in c.self.inside) c.self.invariant c.args.process c.args.fd c.args.entry can)

pub invariant_of-self : goal.invariant_of-self
invariant_of-self c =
    let can = rw (← c.self.view_is) at c.requires.fits in
    let theirs = rw (← c.self.view_is) at c.requires.theirs in
    rw (
      c.release.ensures.pipes,
      c.release.ensures.files,
      c.drop_entry-dropped.ensures.told,
      c.drop_entry-dropped.ensures.slots,
      c.set_fd-old.ensures.old,
      c.set_fd-old.ensures.slots,
      c.hold_entry.ensures.slots,
    )
    (is_set (stored_in c.self.inside) c.self.invariant c.args.process c.args.fd c.args.entry can c.sweep_releases.ensures.stays
    c.sweep_releases.ensures.releases c.sweep_leaves_wanted.ensures theirs).consistent

pub returns-clause-world : goal.returns-clause-world
returns-clause-world c =
    let can = rw (← c.self.view_is) at c.requires.fits in
    let theirs = rw (← c.self.view_is) at c.requires.theirs in
    rw (
      ← c.self.view_is,
      c.release.ensures.pipes,
      c.release.ensures.files,
      c.drop_entry-dropped.ensures.told,
      c.drop_entry-dropped.ensures.slots,
      c.set_fd-old.ensures.old,
      c.set_fd-old.ensures.slots,
      c.hold_entry.ensures.slots,
    )
    (is_set (stored_in c.self.inside) c.self.invariant c.args.process c.args.fd c.args.entry can c.sweep_releases.ensures.stays
    c.sweep_releases.ensures.releases c.sweep_leaves_wanted.ensures theirs).world
