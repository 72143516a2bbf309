use Rattle.std.proofs.Common.{ℕ, None, Some, subst}
use Rattle.session_core.specs.declared.end.End.TheVariants as end
use Rattle.session_core.specs.declared.stage.Over.TheVariants as over
use Rattle.session_core.specs.Proved.Closing.{HangsUp}
use Rattle.session_core.proofs.CutLemmas.{hung_up_closes}
use Rattle.session_core.proofs.ClosingLemmas as laws
use Rattle.session_core.proofs.closing.close_untold.Goals as goal

pub returns-in-Ok-clause-all : goal.returns-in-Ok-clause-all
returns-in-Ok-clause-all g c =
    rw c.left_by.ensures (laws.untold_sent c.args.output.now c.flush.new.self c.args.seat c.hang_up.result.0 c.args.receipt c.hang_up.result.1
    c.in-Ok.ensures.ok
    c.hang_up.ensures.hangs_up)

pub returns-in-Err-clause-all : goal.returns-in-Err-clause-all
returns-in-Err-clause-all g c =
    let hung_up = subst (λ (n : ℕ). HangsUp c.args.seat (end.WriteFault n) c.hang_up-in-Err.result.0 c.hang_up-in-Err.result.1) c.sent.ensures
    c.hang_up-in-Err.ensures.hangs_up in
    rw c.left_by-in-Err.ensures (laws.untold_failed c.args.output.now c.flush.new.self c.args.seat c.hang_up-in-Err.result.0 c.args.receipt
    c.hang_up-in-Err.result.1
    c.in-Err.ensures.err hung_up)

pub returns-in-Ok-clause-closes : goal.returns-in-Ok-clause-closes
returns-in-Ok-clause-closes g c =
    hung_up_closes (over.Untold c.args.seat c.args.receipt) c.args.output.now c.flush.new.self c.args.seat c.hang_up.result.0 end.NoMemory c.hang_up.result.1
    None c.left_by.result (λ answers. tt) c.hang_up.ensures.hangs_up
    c.left_by.ensures

pub returns-in-Err-clause-closes : goal.returns-in-Err-clause-closes
returns-in-Err-clause-closes g c =
    hung_up_closes (over.Untold c.args.seat c.args.receipt) c.args.output.now c.flush.new.self c.args.seat c.hang_up-in-Err.result.0
    (end.WriteFault c.sent.result) c.hang_up-in-Err.result.1 (Some c.args.receipt)
    c.left_by-in-Err.result (λ answers. tt) c.hang_up-in-Err.ensures.hangs_up c.left_by-in-Err.ensures

pub returns-in-Ok-clause-answers : goal.returns-in-Ok-clause-answers
returns-in-Ok-clause-answers g c = c.in-Ok.ensures.ok.flushes.answers

pub returns-in-Err-clause-answers : goal.returns-in-Err-clause-answers
returns-in-Err-clause-answers g c = c.in-Err.ensures.err.answers

pub returns-in-Ok-clause-said : goal.returns-in-Ok-clause-said
returns-in-Ok-clause-said g c h p = rw c.left_by.ensures (c.hang_up.ensures.said h p tt)

pub returns-in-Err-clause-said : goal.returns-in-Err-clause-said
returns-in-Err-clause-said g c h p = rw c.left_by-in-Err.ensures (c.hang_up-in-Err.ensures.said h p tt)
