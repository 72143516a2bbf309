use Rattle.std.proofs.Common.{◌≡◌, ◌∙◌, ℕ, ap, rules, sym, subst}
use mathlib.Core.List.{IsPrefix}
use Rattle.posix_model.specs.declared.world.World.{World}
use Rattle.system_lock.specs.Proved.Stirred.{pipe_waited, stirred_at}
use Rattle.system_lock.specs.Proved.Sleepers.{pipe_in, SparesIn}
use Rattle.system_lock.specs.declared.stirred.Stirred.TheVariants as stirred
use Rattle.run_history.specs.Fronts.{Grows}
use Rattle.system_lock.specs.System.{SystemState}
use Rattle.system_lock.specs.declared.acts.Tried.TheVariants as tried
use Rattle.system_lock.proofs.GrowLaws.{tries_grow}
use Rattle.system_lock.proofs.system.System.try_resume.Goals as goal

-- a resume spares all but its own process and those on its pipe
pub wake_stirred-requires : goal.wake_stirred-requires
wake_stirred-requires g c =
    let b = c.self.inside.book in
    let s = c.args.seat in
    let new = c.resume.new.book in
    let pipe : c.pipe_waited-pipe.result ≡ pipe_in b s.pid =
    c.pipe_waited-pipe.ensures ∙ (ap (λ (w : World). pipe_waited w c.pid-process.result) c.machine.ensures ∙ ap (pipe_in b) c.pid-process.ensures) in
    let is : c.at-stirred.result ≡ stirred_at s.pid (pipe_in b s.pid) =
    c.at-stirred.ensures ∙ (ap (λ (n : ℕ). stirred_at n c.pipe_waited-pipe.result) c.pid-process.ensures ∙ ap (stirred_at s.pid) pipe) in
    record {
      left = (
        b,
        c.self.invariant.0,
        subst (SparesIn b new) (sym is)
            (c.events_spare.ensures.resumes b new s c.in-Resumed.seat c.in-Resumed.receipt c.in-Resumed.ensures.event.1),
      );
    }

pub wake_stirred-requires-in-Ended : goal.wake_stirred-requires-in-Ended
wake_stirred-requires-in-Ended g c =
    let b = c.self.inside.book in
    let new = c.resume.new.book in
    let spares = c.events_spare.ensures.exits b new c.args.seat c.in-Ended.ended.seat c.in-Ended.ended.why c.in-Ended.ensures.event.0 in
    record { left = (b, c.self.invariant.0, subst (λ (n : ℕ). SparesIn b new (stirred.Anybody n)) (sym c.pid-process.ensures) spares) }

-- the book alone gives no call up
pub returns-in-Ended-clause-given_up : goal.returns-in-Ended-clause-given_up
returns-in-Ended-clause-given_up g c = λ is. absurd (c.in-Ended.ensures.not_lost is)

pub invariant_of-self-in-Ended : goal.invariant_of-self-in-Ended
invariant_of-self-in-Ended g c = (
  c.wake_stirred-in-Ended.ensures.sound,
  search rules,
  search rules,
  search rules,
  c.add_exit.ensures c.self.inside.book c.resume.new.book c.args.seat c.in-Ended.ensures.event.0 c.self.invariant.4,
)

pub returns-in-Still-clause-grows : goal.returns-in-Still-clause-grows
returns-in-Still-clause-grows g c h p =
    subst (λ (s : SystemState). IsPrefix s.book_is.history h) c.self.view_is (tries_grow c.self.inside.book c.resume.new.book c.args.seat
    (tried.Still c.in-Still.seat) c.in-Still.ensures.event h (c.sleep_unless_lost.ensures.grows h p))

pub returns-in-Ended-clause-grows : goal.returns-in-Ended-clause-grows
returns-in-Ended-clause-grows g c =
    subst (λ (s : SystemState). Grows s.book_is.history c.resume.new.book.history) c.self.view_is (tries_grow c.self.inside.book c.resume.new.book c.args.seat
    (tried.Ended c.in-Ended.ended) c.in-Ended.ensures.event)
