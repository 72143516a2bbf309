use Rattle.std.proofs.Common.{ℕ, None, Some, sym, subst}
use Rattle.session_core.specs.declared.end.End.TheVariants as end
use Rattle.session_core.specs.declared.stage.LeaveCause.TheVariants as why
use Rattle.session_core.specs.Proved.Closing.{LeavesWith, MayClose}
use Rattle.session_core.proofs.SaidLemmas.{keeps_left, leaves_said, ended_said, closed_said, foreign_said, over_given_up_said}
use Rattle.session_core.proofs.CutLemmas.{hung_up_closes, leaves_closes, seat_closes, unwritten_closes}
use Rattle.session_core.proofs.ClosingLemmas as laws
use Rattle.session_core.proofs.closing.close_session.Goals as goal

pub returns-in-Leaves-clause-all : goal.returns-in-Leaves-clause-all
returns-in-Leaves-clause-all g c =
    rw c.in-Leaves.is (laws.leaves c.args.output.now c.send_last-end.new.output c.in-Leaves.stage c.in-Leaves.why c.send_last-end.result c.hang_up_stage.result
    c.send_last-end.ensures c.hang_up_stage.ensures.seat c.hang_up_stage.ensures.last)

pub returns-in-Unwritten-clause-all : goal.returns-in-Unwritten-clause-all
returns-in-Unwritten-clause-all g c =
    let left = c.hang_up_stage-in-Unwritten.result in
    let leaves = subst (λ (n : ℕ). LeavesWith c.in-Unwritten.stage (end.WriteFault n) left.seat left.end) c.sent.ensures
    c.hang_up_stage-in-Unwritten.ensures.seat in
    rw c.in-Unwritten.is (laws.unwritten c.args.output.now c.in-Unwritten.stage left leaves c.hang_up_stage-in-Unwritten.ensures.last)

pub returns-in-OpeningUntold-clause-all : goal.returns-in-OpeningUntold-clause-all
returns-in-OpeningUntold-clause-all g c =
    rw (c.in-OpeningUntold.is, c.left_by.ensures)
    (laws.opening_untold c.args.output.now c.in-OpeningUntold.seat c.hang_up.result.0 c.hang_up.result.1 c.hang_up.ensures.hangs_up)

pub returns-in-Untold-clause-all : goal.returns-in-Untold-clause-all
returns-in-Untold-clause-all g c = rw c.in-Untold.is c.close_untold.ensures.all

pub returns-in-Refused-clause-all : goal.returns-in-Refused-clause-all
returns-in-Refused-clause-all g c =
    let sent = c.send_last-end-in-Refused in
    rw (c.in-Refused.is, c.left_by-in-Refused.ensures) (laws.refused c.args.output.now sent.new.output c.in-Refused.seat sent.result sent.ensures)

pub returns-in-GivenUp-clause-all : goal.returns-in-GivenUp-clause-all
returns-in-GivenUp-clause-all g c =
    let sent = c.send_last-end-in-GivenUp in
    rw (c.in-GivenUp.is, c.left_by-in-GivenUp.ensures)
    (laws.given_up c.args.output.now sent.new.output c.in-GivenUp.seat c.in-GivenUp.why sent.result sent.ensures)

pub returns-in-Ended-clause-all : goal.returns-in-Ended-clause-all
returns-in-Ended-clause-all g c =
    let sent = c.send_last-end-in-Ended in
    rw (c.in-Ended.is, c.left_by-in-Ended.ensures) (laws.ended c.args.output.now sent.new.output c.in-Ended.seat c.in-Ended.why sent.result sent.ensures)

pub returns-in-Foreign-clause-all : goal.returns-in-Foreign-clause-all
returns-in-Foreign-clause-all g c = rw (c.in-Foreign.is, c.left_by-in-Foreign.ensures) (laws.foreign c.args.output.now c.in-Foreign.seat)

pub returns-in-RefusalUntold-clause-all : goal.returns-in-RefusalUntold-clause-all
returns-in-RefusalUntold-clause-all g c =
    rw (c.in-RefusalUntold.is, c.left_by-in-RefusalUntold.ensures) (laws.refusal_untold c.args.output.now c.in-RefusalUntold.seat)

pub returns-in-Leaves-clause-said : goal.returns-in-Leaves-clause-said
returns-in-Leaves-clause-said g c h p = λ said. (c.hang_up_stage.ensures.said h p)
    (leaves_said (g.K.Kernel.says h) None _ _ c.args.over c.in-Leaves.stage c.in-Leaves.why c.send_last-end.result c.in-Leaves.is c.send_last-end.ensures said)

pub returns-in-Refused-clause-said : goal.returns-in-Refused-clause-said
returns-in-Refused-clause-said g c h p = λ said. rw c.left_by-in-Refused.ensures
    (closed_said (g.K.Kernel.says h) (Some c.in-Refused.seat) _ _ c.send_last-end-in-Refused.result c.send_last-end-in-Refused.ensures)

pub returns-in-GivenUp-clause-said : goal.returns-in-GivenUp-clause-said
returns-in-GivenUp-clause-said g c h p = λ said. rw c.left_by-in-GivenUp.ensures
    (over_given_up_said (g.K.Kernel.says h) _ _ c.args.over c.in-GivenUp.seat c.in-GivenUp.why c.send_last-end-in-GivenUp.result
    c.in-GivenUp.is c.send_last-end-in-GivenUp.ensures said)

pub returns-in-Ended-clause-said : goal.returns-in-Ended-clause-said
returns-in-Ended-clause-said g c h p = λ said. rw c.left_by-in-Ended.ensures
    (ended_said (g.K.Kernel.says h) _ _ c.args.over c.in-Ended.seat c.in-Ended.why c.send_last-end-in-Ended.result c.in-Ended.is
    c.send_last-end-in-Ended.ensures said)

pub returns-in-Foreign-clause-said : goal.returns-in-Foreign-clause-said
returns-in-Foreign-clause-said g c h p = λ said. rw c.left_by-in-Foreign.ensures
    (foreign_said (g.K.Kernel.says h) c.args.over c.in-Foreign.seat c.in-Foreign.is said)

pub returns-in-Leaves-clause-seat : goal.returns-in-Leaves-clause-seat
returns-in-Leaves-clause-seat g c = keeps_left c.args.over c.in-Leaves.stage c.in-Leaves.why c.send_last-end.result c.hang_up_stage.result c.in-Leaves.is
    c.hang_up_stage.ensures.seat

pub returns-in-Leaves-clause-closes : goal.returns-in-Leaves-clause-closes
returns-in-Leaves-clause-closes g c =
    leaves_closes c.args.over c.args.output.now c.send_last-end.new.output c.in-Leaves.stage c.in-Leaves.why c.send_last-end.result c.hang_up_stage.result
    c.in-Leaves.is c.send_last-end.ensures c.hang_up_stage.ensures.seat c.hang_up_stage.ensures.last

pub returns-in-Unwritten-clause-closes : goal.returns-in-Unwritten-clause-closes
returns-in-Unwritten-clause-closes g c =
    unwritten_closes c.args.over c.args.output.now c.in-Unwritten.stage c.sent.result c.hang_up_stage-in-Unwritten.result
    c.hang_up_stage-in-Unwritten.ensures.seat c.hang_up_stage-in-Unwritten.ensures.last

pub returns-in-OpeningUntold-clause-closes : goal.returns-in-OpeningUntold-clause-closes
returns-in-OpeningUntold-clause-closes g c =
    hung_up_closes c.args.over c.args.output.now c.args.output.now c.in-OpeningUntold.seat c.hang_up.result.0 end.NoMemory c.hang_up.result.1 None
    c.left_by.result (λ answers. tt) c.hang_up.ensures.hangs_up c.left_by.ensures

pub returns-in-RefusalUntold-clause-closes : goal.returns-in-RefusalUntold-clause-closes
returns-in-RefusalUntold-clause-closes g c = rw c.left_by-in-RefusalUntold.ensures tt

pub returns-in-Untold-clause-closes : goal.returns-in-Untold-clause-closes
returns-in-Untold-clause-closes g c = rw c.in-Untold.is c.close_untold.ensures.closes

pub returns-in-Refused-clause-closes : goal.returns-in-Refused-clause-closes
returns-in-Refused-clause-closes g c =
    seat_closes c.args.over c.args.output.now c.send_last-end-in-Refused.new.output why.Closed c.in-Refused.seat c.send_last-end-in-Refused.result
    c.left_by-in-Refused.result (λ closed. subst MayClose (sym c.in-Refused.is) tt)
    c.send_last-end-in-Refused.ensures c.left_by-in-Refused.ensures

pub returns-in-GivenUp-clause-closes : goal.returns-in-GivenUp-clause-closes
returns-in-GivenUp-clause-closes g c =
    seat_closes c.args.over c.args.output.now c.send_last-end-in-GivenUp.new.output c.in-GivenUp.why c.in-GivenUp.seat c.send_last-end-in-GivenUp.result
    c.left_by-in-GivenUp.result (λ closed. subst MayClose (sym c.in-GivenUp.is) tt)
    c.send_last-end-in-GivenUp.ensures c.left_by-in-GivenUp.ensures

pub returns-in-Ended-clause-closes : goal.returns-in-Ended-clause-closes
returns-in-Ended-clause-closes g c =
    seat_closes c.args.over c.args.output.now c.send_last-end-in-Ended.new.output c.in-Ended.why c.in-Ended.seat c.send_last-end-in-Ended.result
    c.left_by-in-Ended.result (λ closed. subst MayClose (sym c.in-Ended.is) closed)
    c.send_last-end-in-Ended.ensures c.left_by-in-Ended.ensures

pub returns-in-Foreign-clause-closes : goal.returns-in-Foreign-clause-closes
returns-in-Foreign-clause-closes g c = rw c.left_by-in-Foreign.ensures tt

pub returns-in-Leaves-clause-answers : goal.returns-in-Leaves-clause-answers
returns-in-Leaves-clause-answers g c = laws.answers_sent c.args.output.now c.send_last-end.new.output c.in-Leaves.why c.send_last-end.result
    c.send_last-end.ensures

pub returns-in-Refused-clause-answers : goal.returns-in-Refused-clause-answers
returns-in-Refused-clause-answers g c = laws.answers_sent c.args.output.now c.send_last-end-in-Refused.new.output why.Closed c.send_last-end-in-Refused.result
    c.send_last-end-in-Refused.ensures

pub returns-in-GivenUp-clause-answers : goal.returns-in-GivenUp-clause-answers
returns-in-GivenUp-clause-answers g c = laws.answers_sent c.args.output.now c.send_last-end-in-GivenUp.new.output c.in-GivenUp.why
    c.send_last-end-in-GivenUp.result c.send_last-end-in-GivenUp.ensures

pub returns-in-Ended-clause-answers : goal.returns-in-Ended-clause-answers
returns-in-Ended-clause-answers g c = laws.answers_sent c.args.output.now c.send_last-end-in-Ended.new.output c.in-Ended.why c.send_last-end-in-Ended.result
    c.send_last-end-in-Ended.ensures

pub returns-in-Unwritten-clause-said : goal.returns-in-Unwritten-clause-said
returns-in-Unwritten-clause-said g c h p said = c.hang_up_stage-in-Unwritten.ensures.said h p tt

pub returns-in-OpeningUntold-clause-said : goal.returns-in-OpeningUntold-clause-said
returns-in-OpeningUntold-clause-said g c h p said = rw c.left_by.ensures (c.hang_up.ensures.said h p tt)

pub returns-in-Untold-clause-said : goal.returns-in-Untold-clause-said
returns-in-Untold-clause-said g c h p said = c.close_untold.ensures.said h p
