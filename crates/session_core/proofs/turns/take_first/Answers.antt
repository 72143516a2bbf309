use Rattle.session_core.proofs.CallLemmas as laws
use Rattle.std.proofs.Common.{[], ◌∷◌, refl}
use Rattle.session_core.specs.Refusals.{RefusalSaid}
use Rattle.session_core.proofs.RefusalLemmas.{same_turn, wider}
use Rattle.call_types.specs.declared.request.Request.TheVariants as request
use Rattle.session_core.specs.declared.stage.Stage.TheVariants as stage
use Rattle.session_core.proofs.turns.take_first.Goals as goal

pub returns-in-Join-clause-takes : goal.returns-in-Join-clause-takes
returns-in-Join-clause-takes g c =
    laws.same_place (stage.Opening c.args.admission) (stage.Opening c.args.admission) c.args.request request.Join c.args.output.now
    c.take_opening.new.output c.take_opening.result refl c.in-Join.is c.take_opening.ensures.takes

pub returns-in-Attach-clause-takes : goal.returns-in-Attach-clause-takes
returns-in-Attach-clause-takes g c =
    laws.same_place (stage.Opening c.args.admission) (stage.Opening c.args.admission) c.args.request (request.Attach c.in-Attach.process)
    c.args.output.now c.take_opening-in-Attach.new.output c.take_opening-in-Attach.result refl c.in-Attach.is c.take_opening-in-Attach.ensures.takes

pub returns-in-Join-clause-refusals : goal.returns-in-Join-clause-refusals
returns-in-Join-clause-refusals g c h p =
    same_turn (RefusalSaid (g.K.Kernel.says h)) (stage.Opening c.args.admission) (stage.Opening c.args.admission) c.args.request request.Join
    c.args.output.now c.take_opening.new.output refl c.in-Join.is (c.take_opening.ensures.refusals h p)

pub returns-in-Attach-clause-refusals : goal.returns-in-Attach-clause-refusals
returns-in-Attach-clause-refusals g c h p =
    same_turn (RefusalSaid (g.K.Kernel.says h)) (stage.Opening c.args.admission) (stage.Opening c.args.admission) c.args.request
    (request.Attach c.in-Attach.process) c.args.output.now c.take_opening-in-Attach.new.output refl c.in-Attach.is
    (c.take_opening-in-Attach.ensures.refusals h p)

pub returns-in-Call-clause-refusals : goal.returns-in-Call-clause-refusals
returns-in-Call-clause-refusals g c h p base handled holds talking are = wider (g.K.Kernel.says h) handled (c.args.request ∷ []) c.args.output.now.answers are
