use Rattle.std.proofs.Common.{[], ◌∷◌, ◌++◌, subst}
use Rattle.system_lock.specs.Kernel.{IsOpenedAs, itself}
use Rattle.session_core.proofs.SaidLemmas.{unopened_said}
use Rattle.session_core.proofs.TalkLemmas as laws
use Rattle.session_core.specs.Refusals.{RefusalSaid}
use Rattle.session_core.proofs.RefusalLemmas.{first_said, opening_refused, unput_said}
use Rattle.session_core.proofs.turns.take_opening.Goals as goal

pub returns-in-Ok-clause-takes : goal.returns-in-Ok-clause-takes
returns-in-Ok-clause-takes g c =
    laws.seated c.args.admission c.args.request c.in-Ok-Seated.seat _ _ _ c.receipts.ensures.receipts
    (subst (λ o. IsOpenedAs itself itself c.args.request o) c.in-Ok-Seated.field-0-is c.in-Ok-Seated.ensures.opens) c.in-Ok.ensures.ok

pub returns-in-Err-put_first-clause-takes : goal.returns-in-Err-put_first-clause-takes
returns-in-Err-put_first-clause-takes g c =
    laws.opening_untold c.args.admission c.args.request c.in-Ok-Seated.seat _ _
    (subst (λ o. IsOpenedAs itself itself c.args.request o) c.in-Ok-Seated.field-0-is c.in-Ok-Seated.ensures.opens) c.in-Err-put_first.ensures.err

pub returns-in-Ok-put_first-clause-takes : goal.returns-in-Ok-put_first-clause-takes
returns-in-Ok-put_first-clause-takes g c =
    laws.unseated c.args.admission c.args.request c.in-Ok-Refused.seat _ _ _ c.receipts-in-Ok-Refused.ensures.receipts
    (subst (λ o. IsOpenedAs itself itself c.args.request o) c.in-Ok-Refused.field-0-is c.in-Ok-Refused.ensures.opens) c.in-Ok-put_first.ensures.ok

pub returns-in-Err-put_first-2-clause-takes : goal.returns-in-Err-put_first-2-clause-takes
returns-in-Err-put_first-2-clause-takes g c =
    laws.refusal_untold c.args.admission c.args.request c.in-Ok-Refused.seat _ _
    (subst (λ o. IsOpenedAs itself itself c.args.request o) c.in-Ok-Refused.field-0-is c.in-Ok-Refused.ensures.opens) c.in-Err-put_first-2.ensures.err

pub returns-in-Err-clause-takes : goal.returns-in-Err-clause-takes
returns-in-Err-clause-takes g c = laws.unopened c.args.admission c.in-Err.admission _ _ _ _ _ c.requires c.put_given_up-why.ensures

pub returns-in-Err-clause-said : goal.returns-in-Err-clause-said
returns-in-Err-clause-said g c h p = unopened_said (g.K.Kernel.says h).not_opened c.args.request c.in-Err.field-0.refusal c.args.output.now
    c.put_given_up-why.new.output c.put_given_up-why.result c.put_given_up-why.ensures (c.in-Err.ensures.refused h p)

pub returns-in-Ok-clause-refusals : goal.returns-in-Ok-clause-refusals
returns-in-Ok-clause-refusals g c h p base handled holds talking are =
    first_said (RefusalSaid (g.K.Kernel.says h) (handled ++ c.args.request ∷ [])) _ c.args.output.now c.put_first.new.output c.in-Ok.ensures.ok talking.1

pub returns-in-Err-put_first-clause-refusals : goal.returns-in-Err-put_first-clause-refusals
returns-in-Err-put_first-clause-refusals g c h p base handled holds talking are =
    unput_said (RefusalSaid (g.K.Kernel.says h) (handled ++ c.args.request ∷ [])) c.args.output.now c.put_first.new.output c.in-Err-put_first.ensures.err
    talking.1

pub returns-in-Ok-put_first-clause-refusals : goal.returns-in-Ok-put_first-clause-refusals
returns-in-Ok-put_first-clause-refusals g c h p base handled holds talking are =
    first_said (RefusalSaid (g.K.Kernel.says h) (handled ++ c.args.request ∷ [])) _ c.args.output.now c.put_first-in-Ok-Refused.new.output
    c.in-Ok-put_first.ensures.ok talking.1

pub returns-in-Err-put_first-2-clause-refusals : goal.returns-in-Err-put_first-2-clause-refusals
returns-in-Err-put_first-2-clause-refusals g c h p base handled holds talking are =
    unput_said (RefusalSaid (g.K.Kernel.says h) (handled ++ c.args.request ∷ [])) c.args.output.now c.put_first-in-Ok-Refused.new.output
    c.in-Err-put_first-2.ensures.err talking.1

pub returns-in-Err-clause-refusals : goal.returns-in-Err-clause-refusals
returns-in-Err-clause-refusals g c h p base handled holds talking are =
    opening_refused (g.K.Kernel.says h) handled c.args.request c.in-Err.field-0.refusal c.args.output.now c.put_given_up-why.new.output
    c.put_given_up-why.result
    c.requires (c.in-Err.ensures.refused h p) c.put_given_up-why.ensures talking.0 talking.1
