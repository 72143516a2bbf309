use Rattle.std.proofs.Common.{[], ◌∷◌, ◌++◌, refl, sym, ap, subst, ◌∙◌}
use Rattle.call_types.specs.declared.act.Act.TheVariants as act
use Rattle.call_types.specs.declared.act.Record.{Record}
use Rattle.posix_model.specs.Step.{EndsOrGoesOn}
use Rattle.record_book.specs.Seat.{Receipted}
use Rattle.system_lock.specs.Kernel.{Adds}
use Rattle.session_core.specs.declared.told.Told.TheVariants as told
use Rattle.session_core.specs.Proved.Turns.{goes_on}
use Rattle.session_core.proofs.SaidLemmas.{given_up_said}
use Rattle.session_core.proofs.WaitLemmas as laws
use Rattle.call_types.specs.declared.request.Request.TheVariants as request
use Rattle.session_core.specs.Refusals.{RefusalSaid}
use Rattle.session_core.proofs.RefusalLemmas.{ended_refused, kept_said, put_said, same_said}
use Rattle.session_core.proofs.turns.wait_once.Goals as goal

pub returns-in-Err-clause-waits : goal.returns-in-Err-clause-waits
returns-in-Err-clause-waits g c base handled call w = laws.unsent base handled call c.args.seat _ _ c.in-Err.ensures.err w

pub returns-in-Ended-clause-waits : goal.returns-in-Ended-clause-waits
returns-in-Ended-clause-waits g c base handled call w = c.end_given_up.ensures.gives base handled call c.args.seat
    (laws.still_waits base handled call c.args.seat _ _ c.in-Ok.ensures.ok w) c.in-Ended.ensures.finishes.0

pub returns-in-Ok-put_recorded-clause-waits : goal.returns-in-Ok-put_recorded-clause-waits
returns-in-Ok-put_recorded-clause-waits g c base handled call w = (
  call,
  refl,
  laws.resumed_part base handled call c.args.seat c.in-Resumed.seat c.in-Resumed.receipt _ _ c.in-Resumed.ensures.finishes.0 c.in-Resumed.ensures.finishes.1
      (ap (λ (r : Record). goes_on r.outcome) (sym c.record.ensures.«record») ∙ sym c.goes_on-waits.ensures ∙ c.if-waits.true) c.in-Ok-put_recorded.ensures.ok
      (laws.still_waits base handled call c.args.seat _ _ c.in-Ok.ensures.ok w),
)

pub returns-in-Ok-2-clause-waits : goal.returns-in-Ok-2-clause-waits
returns-in-Ok-2-clause-waits g c base handled call w =
    laws.resumed_whole base handled call c.args.seat c.in-Resumed.seat c.in-Resumed.receipt _ _ c.in-Resumed.ensures.finishes.0 c.in-Resumed.ensures.finishes.1
    (ap (λ (r : Record). goes_on r.outcome) (sym c.record.ensures.«record») ∙ sym c.goes_on-waits.ensures ∙ c.if-waits.false) c.in-Ok-2.ensures.ok
    (laws.still_waits base handled call c.args.seat _ _ c.in-Ok.ensures.ok w)

pub returns-in-Err-put_recorded-clause-waits : goal.returns-in-Err-put_recorded-clause-waits
returns-in-Err-put_recorded-clause-waits g c base handled call w =
    laws.resumed_untold base handled call c.args.seat c.in-Resumed.seat c.in-Err-put_recorded.receipt _ _
    (subst (Adds c.args.seat c.in-Resumed.seat act.Resume) (sym c.in-Err-put_recorded.ensures.back) c.in-Resumed.ensures.finishes.0)
    (subst (λ (r : Receipted). EndsOrGoesOn r.record_is.outcome) (sym c.in-Err-put_recorded.ensures.back) c.in-Resumed.ensures.finishes.1)
    c.in-Err-put_recorded.ensures.err
    (laws.still_waits base handled call c.args.seat _ _ c.in-Ok.ensures.ok w)

pub returns-in-Ended-clause-said : goal.returns-in-Ended-clause-said
returns-in-Ended-clause-said g c h p =
    given_up_said (g.K.Kernel.says h) c.in-Ended.ended.seat c.in-Ended.ended.why c.flush.new.self c.end_given_up.new.output c.end_given_up.result
    c.end_given_up.ensures.tells
    (c.args.seat, c.in-Ended.ensures.finishes.0, (c.in-Ended.ensures.ended h p))

pub returns-in-Err-clause-refusals : goal.returns-in-Err-clause-refusals
returns-in-Err-clause-refusals g c h p base handled call w are =
    kept_said (RefusalSaid (g.K.Kernel.says h) (handled ++ request.Call call ∷ [])) c.args.output.now.answers c.flush.new.self.answers
    c.in-Err.ensures.err.answers are

pub returns-in-Ended-clause-refusals : goal.returns-in-Ended-clause-refusals
returns-in-Ended-clause-refusals g c h p base handled call w are =
    ended_refused (g.K.Kernel.says h) base handled call c.args.seat c.in-Ended.ended.seat c.in-Ended.ended.why c.flush.new.self c.end_given_up.new.output
    c.end_given_up.result c.end_given_up.ensures.tells c.in-Ended.ensures.finishes.0 (c.in-Ended.ensures.ended h p)
    (laws.still_waits base handled call c.args.seat _ _ c.in-Ok.ensures.ok w)
    (kept_said (RefusalSaid (g.K.Kernel.says h) (handled ++ request.Call call ∷ [])) c.args.output.now.answers c.flush.new.self.answers
    c.in-Ok.ensures.ok.flushes.answers are)

pub returns-in-Ok-put_recorded-clause-refusals : goal.returns-in-Ok-put_recorded-clause-refusals
returns-in-Ok-put_recorded-clause-refusals g c h p base handled call w are =
    put_said (RefusalSaid (g.K.Kernel.says h) (handled ++ request.Call call ∷ [])) c.flush.new.self c.put_recorded.new.self (told.Recorded c.in-Resumed.receipt)
    c.in-Ok-put_recorded.ensures.ok
    (kept_said (RefusalSaid (g.K.Kernel.says h) (handled ++ request.Call call ∷ [])) c.args.output.now.answers c.flush.new.self.answers
    c.in-Ok.ensures.ok.flushes.answers are) tt

pub returns-in-Ok-2-clause-refusals : goal.returns-in-Ok-2-clause-refusals
returns-in-Ok-2-clause-refusals g c h p base handled call w are =
    put_said (RefusalSaid (g.K.Kernel.says h) (handled ++ request.Call call ∷ [])) c.flush.new.self c.put_recorded.new.self (told.Recorded c.in-Resumed.receipt)
    c.in-Ok-2.ensures.ok
    (kept_said (RefusalSaid (g.K.Kernel.says h) (handled ++ request.Call call ∷ [])) c.args.output.now.answers c.flush.new.self.answers
    c.in-Ok.ensures.ok.flushes.answers are) tt

pub returns-in-Err-put_recorded-clause-refusals : goal.returns-in-Err-put_recorded-clause-refusals
returns-in-Err-put_recorded-clause-refusals g c h p base handled call w are =
    same_said (RefusalSaid (g.K.Kernel.says h) (handled ++ request.Call call ∷ [])) c.flush.new.self c.put_recorded.new.self c.in-Err-put_recorded.ensures.err
    (kept_said (RefusalSaid (g.K.Kernel.says h) (handled ++ request.Call call ∷ [])) c.args.output.now.answers c.flush.new.self.answers
    c.in-Ok.ensures.ok.flushes.answers are)
