use Rattle.std.proofs.Common.{◌≡◌, ◌∙◌, ℕ, ap, rules, sym, subst}
use Rattle.posix_model.specs.declared.world.World.{World}
use Rattle.record_book.specs.Book.{world_now}
use Rattle.system_lock.specs.Proved.Stirred.{stirred_by, stirred_told}
use Rattle.system_lock.specs.Proved.Sleepers.{SparesIn}
use Rattle.run_history.specs.Fronts.{Grows}
use Rattle.system_lock.specs.System.{SystemState}
use Rattle.system_lock.proofs.GrowLaws.{calls_grow}
use Rattle.system_lock.proofs.system.System.call.Goals as goal

-- the call spares all whom it was said not to stir
pub wake_stirred-requires : goal.wake_stirred-requires
wake_stirred-requires g c =
    let b = c.self.inside.book in
    let s = c.args.seat.now in
    let call = c.args.call in
    let told = c.call-told.result in
    let asked : c.by-stirred.result ≡ stirred_by (world_now b) s.pid call =
    c.by-stirred.ensures ∙ (ap (λ (w : World). stirred_by w c.pid.result call) c.machine.ensures ∙
    ap (λ (n : ℕ). stirred_by (world_now b) n call) c.pid.ensures) in
    let is : c.told.result ≡ stirred_told told (stirred_by (world_now b) s.pid call) = c.told.ensures ∙ ap (stirred_told told) asked in
    record {
      left = (
        b,
        c.self.invariant.0,
        subst (SparesIn b c.call-told.new.book) (sym is)
            (c.events_spare.ensures.calls b c.call-told.new.book s c.call-told.new.seat call told c.call-told.ensures.event),
      );
    }

pub returns-clause-grows : goal.returns-clause-grows
returns-clause-grows g c =
    subst (λ (s : SystemState). Grows s.book_is.history c.call-told.new.book.history) c.self.view_is
    (calls_grow c.self.inside.book c.call-told.new.book c.args.seat.now c.call-told.new.seat c.args.call c.call-told.result c.call-told.ensures.event)

pub invariant_of-self : goal.invariant_of-self
invariant_of-self g c = (
  c.wake_stirred.ensures.sound,
  search rules,
  search rules,
  search rules,
  c.add_call.ensures c.self.inside.book c.call-told.new.book c.args.seat.now c.call-told.new.seat c.args.call c.call-told.ensures.event
      c.self.invariant.4,
)
