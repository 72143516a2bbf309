use Rattle.std.proofs.Common.{sym, subst}
use Rattle.call_types.specs.declared.request.Request.{Request}
use Rattle.system_lock.specs.Proved.Reasons.{OpensBy}
use Rattle.system_lock.proofs.OpeningLaws as laws
use Rattle.system_lock.proofs.acts.open.Goals as goal

pub returns-in-Join-clause-opens : goal.returns-in-Join-clause-opens
returns-in-Join-clause-opens g c = subst (λ (r : Request). OpensBy r c.join.result) (sym c.in-Join.is)
    (laws.joined c.args.book.now c.join.new.self c.join.result c.join.ensures.recorded c.join.ensures.refused)

pub returns-in-Attach-clause-opens : goal.returns-in-Attach-clause-opens
returns-in-Attach-clause-opens g c =
    subst (λ (r : Request). OpensBy r c.attach.result) (sym c.in-Attach.is)
    (laws.attached c.args.book.now c.attach.new.self c.in-Attach.process c.attach.result c.attach.ensures.recorded c.attach.ensures.refused)
