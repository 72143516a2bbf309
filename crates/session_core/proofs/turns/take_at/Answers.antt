use Rattle.session_core.proofs.CallLemmas as laws
use Rattle.std.proofs.Common.{List, [], ◌∷◌, ◌++◌, refl, sym, subst}
use Rattle.call_types.specs.declared.request.Request.TheVariants as request
use Rattle.session_core.specs.Stages.{Stage}
use Rattle.session_core.specs.declared.stage.Stage.TheVariants as stage
use Rattle.session_core.specs.Proved.Turns.{IsTalking, turn_of}
use Rattle.session_core.specs.declared.told.Told.{Told}
use Rattle.session_core.specs.Refusals.{RefusalSaid}
use Rattle.session_core.proofs.RefusalLemmas.{kept_said, same_turn, wider}
use Rattle.session_core.proofs.turns.take_at.Goals as goal

pub returns-in-Call-clause-takes : goal.returns-in-Call-clause-takes
returns-in-Call-clause-takes g c =
    let at : Stage = stage.Ready c.args.seat.now in
    let found = turn_of c.call_at.new.seat c.call_at.result in
    laws.after_flush at c.args.request c.args.output.now c.flush_much.new.self c.call_at.new.output found c.in-Ok.ensures.ok
    (laws.same_place at at c.args.request (request.Call c.in-Call.call) c.flush_much.new.self c.call_at.new.output found refl c.in-Call.is
    c.call_at.ensures.takes)

pub returns-in-Err-clause-takes : goal.returns-in-Err-clause-takes
returns-in-Err-clause-takes g c = laws.unflushed (stage.Ready c.args.seat.now) c.args.request c.args.output.now c.flush_much.new.self c.in-Err.ensures.err

pub returns-in-Call-clause-refusals : goal.returns-in-Call-clause-refusals
returns-in-Call-clause-refusals g c h p base handled holds talking are =
    let same = c.in-Ok.ensures.ok.answers in
    (same_turn (RefusalSaid (g.K.Kernel.says h)) (stage.Ready c.args.seat.now) (stage.Ready c.args.seat.now) c.args.request (request.Call c.in-Call.call)
    c.flush_much.new.self c.call_at.new.output refl c.in-Call.is (c.call_at.ensures.refusals h p)) base handled (c.in-Ok.ensures.ok.holds base holds)
    (subst (λ (l : List Told). IsTalking handled l (stage.Ready c.args.seat.now)) (sym same) talking)
    (kept_said (RefusalSaid (g.K.Kernel.says h) handled) c.args.output.now.answers c.flush_much.new.self.answers same are)

pub returns-in_default-clause-refusals : goal.returns-in_default-clause-refusals
returns-in_default-clause-refusals g c h p base handled holds talking are =
    kept_said (RefusalSaid (g.K.Kernel.says h) (handled ++ c.args.request ∷ [])) c.args.output.now.answers c.flush_much.new.self.answers
    c.in-Ok.ensures.ok.answers (wider (g.K.Kernel.says h) handled (c.args.request ∷ []) c.args.output.now.answers are)

pub returns-in-Err-clause-refusals : goal.returns-in-Err-clause-refusals
returns-in-Err-clause-refusals g c h p base handled holds talking are =
    kept_said (RefusalSaid (g.K.Kernel.says h) (handled ++ c.args.request ∷ [])) c.args.output.now.answers c.flush_much.new.self.answers
    c.in-Err.ensures.err.answers (wider (g.K.Kernel.says h) handled (c.args.request ∷ []) c.args.output.now.answers are)
