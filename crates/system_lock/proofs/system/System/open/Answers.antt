use Rattle.std.proofs.Common.{ℕ, sym, subst}
use Rattle.system_lock.specs.Proved.Sleepers.{SparesIn}
use Rattle.system_lock.specs.declared.stirred.Stirred.TheVariants as stirred
use Rattle.system_lock.proofs.GrowLaws.{opens_grow}
use Rattle.run_history.specs.Fronts.{Grows}
use Rattle.system_lock.specs.System.{SystemState}
use Rattle.system_lock.proofs.system.System.open.Goals as goal

pub wake_stirred-requires : goal.wake_stirred-requires
wake_stirred-requires g c =
    let b = c.self.inside.book in
    let new = c.open-opened.new.book in
    record {
      left = (
        b,
        c.self.invariant.0,
        subst (λ (n : ℕ). SparesIn b new (stirred.Anybody n)) (sym c.opener-process.ensures)
            (c.events_spare.ensures.opens b new c.args.request c.open-opened.result c.open-opened.ensures.event),
      );
    }

pub returns-clause-grows : goal.returns-clause-grows
returns-clause-grows g c = subst (λ (s : SystemState). Grows s.book_is.history c.open-opened.new.book.history) c.self.view_is
    (opens_grow c.self.inside.book c.open-opened.new.book c.args.request c.open-opened.result c.open-opened.ensures.event)
