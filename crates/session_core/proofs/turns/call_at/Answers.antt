use Rattle.std.proofs.Common.{[], ◌∷◌, ◌++◌, refl, sym, ap, subst, ◌∙◌}
use Rattle.call_types.specs.declared.act.Act.TheVariants as act
use Rattle.call_types.specs.declared.act.Record.{Record}
use Rattle.posix_model.specs.Step.{EndsOrWaits}
use Rattle.record_book.specs.Seat.{Receipted}
use Rattle.system_lock.specs.Kernel.{Adds}
use Rattle.session_core.specs.declared.told.Told.TheVariants as told
use Rattle.session_core.specs.Proved.Turns.{goes_on}
use Rattle.session_core.proofs.CallLemmas as laws
use Rattle.call_types.specs.declared.request.Request.TheVariants as request
use Rattle.session_core.specs.Refusals.{RefusalSaid}
use Rattle.session_core.proofs.RefusalLemmas.{call_refused, put_said, same_said, wider}
use Rattle.session_core.proofs.turns.call_at.Goals as goal

pub returns-in-Ok-put_refused-clause-takes : goal.returns-in-Ok-put_refused-clause-takes
returns-in-Ok-put_refused-clause-takes g c =
    laws.refused c.args.seat.now c.call.new.seat c.args.call _ _ _ c.in-Err.ensures.calls c.in-Ok-put_refused.ensures.ok

pub returns-in-Ok-put_recorded-clause-takes : goal.returns-in-Ok-put_recorded-clause-takes
returns-in-Ok-put_recorded-clause-takes g c base handled holds talking = (
  c.args.call,
  refl,
  laws.parked base handled c.args.seat.now c.call.new.seat c.args.call c.in-Ok.receipt _ _ c.in-Ok.ensures.calls.0 c.in-Ok.ensures.calls.1
      (ap (λ (r : Record). goes_on r.outcome) (sym c.record.ensures.«record») ∙ sym c.goes_on-waits.ensures ∙ c.if-waits.true) c.in-Ok-put_recorded.ensures.ok
      holds talking,
)

pub returns-in-Ok-2-clause-takes : goal.returns-in-Ok-2-clause-takes
returns-in-Ok-2-clause-takes g c =
    laws.replied c.args.seat.now c.call.new.seat c.args.call c.in-Ok.receipt _ _ c.in-Ok.ensures.calls.0 c.in-Ok.ensures.calls.1
    (ap (λ (r : Record). goes_on r.outcome) (sym c.record.ensures.«record») ∙ sym c.goes_on-waits.ensures ∙ c.if-waits.false) c.in-Ok-2.ensures.ok

pub returns-in-Err-put_recorded-clause-takes : goal.returns-in-Err-put_recorded-clause-takes
returns-in-Err-put_recorded-clause-takes g c =
    laws.untold c.args.seat.now c.call.new.seat c.args.call c.in-Err-put_recorded.receipt c.args.output.now c.put_recorded.new.self
    (subst (Adds c.args.seat.now c.call.new.seat (act.Call c.args.call)) (sym c.in-Err-put_recorded.ensures.back) c.in-Ok.ensures.calls.0)
    (subst (λ (r : Receipted). EndsOrWaits r.record_is.outcome) (sym c.in-Err-put_recorded.ensures.back) c.in-Ok.ensures.calls.1)
    c.in-Err-put_recorded.ensures.err

pub returns-in-Ok-put_refused-clause-refusals : goal.returns-in-Ok-put_refused-clause-refusals
returns-in-Ok-put_refused-clause-refusals g c h p base handled holds talking are =
    call_refused (g.K.Kernel.says h) handled c.args.seat.now c.args.call c.in-Err.refusal c.args.output.now c.put_refused.new.self talking
    (c.in-Err.ensures.refused h p) c.in-Ok-put_refused.ensures.ok are

pub returns-in-Err-put_refused-clause-refusals : goal.returns-in-Err-put_refused-clause-refusals
returns-in-Err-put_refused-clause-refusals g c h p base handled holds talking are =
    same_said (RefusalSaid (g.K.Kernel.says h) (handled ++ request.Call c.args.call ∷ [])) c.args.output.now c.put_refused.new.self
    c.in-Err-put_refused.ensures.err (wider (g.K.Kernel.says h) handled (request.Call c.args.call ∷ []) c.args.output.now.answers are)

pub returns-in-Ok-put_recorded-clause-refusals : goal.returns-in-Ok-put_recorded-clause-refusals
returns-in-Ok-put_recorded-clause-refusals g c h p base handled holds talking are =
    put_said (RefusalSaid (g.K.Kernel.says h) (handled ++ request.Call c.args.call ∷ [])) c.args.output.now c.put_recorded.new.self
    (told.Recorded c.in-Ok.receipt)
    c.in-Ok-put_recorded.ensures.ok (wider (g.K.Kernel.says h) handled (request.Call c.args.call ∷ []) c.args.output.now.answers are) tt

pub returns-in-Ok-2-clause-refusals : goal.returns-in-Ok-2-clause-refusals
returns-in-Ok-2-clause-refusals g c h p base handled holds talking are =
    put_said (RefusalSaid (g.K.Kernel.says h) (handled ++ request.Call c.args.call ∷ [])) c.args.output.now c.put_recorded.new.self
    (told.Recorded c.in-Ok.receipt) c.in-Ok-2.ensures.ok (wider (g.K.Kernel.says h) handled (request.Call c.args.call ∷ []) c.args.output.now.answers are) tt

pub returns-in-Err-put_recorded-clause-refusals : goal.returns-in-Err-put_recorded-clause-refusals
returns-in-Err-put_recorded-clause-refusals g c h p base handled holds talking are =
    same_said (RefusalSaid (g.K.Kernel.says h) (handled ++ request.Call c.args.call ∷ [])) c.args.output.now c.put_recorded.new.self
    c.in-Err-put_recorded.ensures.err (wider (g.K.Kernel.says h) handled (request.Call c.args.call ∷ []) c.args.output.now.answers are)
