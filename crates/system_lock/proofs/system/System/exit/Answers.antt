use Rattle.std.proofs.Common.{ℕ, rules, sym, subst}
use Rattle.system_lock.specs.Proved.Sleepers.{SparesIn}
use Rattle.system_lock.specs.declared.stirred.Stirred.TheVariants as stirred
use Rattle.run_history.specs.Fronts.{Grows}
use Rattle.system_lock.specs.System.{SystemState}
use Rattle.system_lock.proofs.GrowLaws.{exits_grow}
use Rattle.system_lock.proofs.system.System.exit.Goals as goal

pub wake_stirred-requires : goal.wake_stirred-requires
wake_stirred-requires g c =
    let b = c.self.inside.book in
    let new = c.exit-ended.new.book in
    let spares = c.events_spare.ensures.exits b new c.args.seat c.exit-ended.result.seat c.exit-ended.result.why c.exit-ended.ensures.event in
    record { left = (b, c.self.invariant.0, subst (λ (n : ℕ). SparesIn b new (stirred.Anybody n)) (sym c.pid-process.ensures) spares) }

pub invariant_of-self : goal.invariant_of-self
invariant_of-self g c = (
  c.wake_stirred.ensures.sound,
  search rules,
  search rules,
  search rules,
  c.add_exit.ensures c.self.inside.book c.exit-ended.new.book c.args.seat c.exit-ended.ensures.event c.self.invariant.4,
)

pub returns-clause-grows : goal.returns-clause-grows
returns-clause-grows g c =
    subst (λ (s : SystemState). Grows s.book_is.history c.exit-ended.new.book.history) c.self.view_is
    (exits_grow c.self.inside.book c.exit-ended.new.book c.args.seat c.exit-ended.result.seat c.exit-ended.result.why c.exit-ended.ensures.event)
