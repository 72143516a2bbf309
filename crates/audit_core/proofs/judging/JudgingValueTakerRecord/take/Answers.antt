use Rattle.audit_core.proofs.JudgeLemmas.{judged_more}
use Rattle.audit_core.proofs.judging.JudgingValueTakerRecord.take.Goals as goal

pub returns-in-Ok-Same : goal.returns-in-Ok-Same
returns-in-Ok-Same c told h judged few = judged_more told h c.args.told c.args.self.now.judge c.judge-judged.new.self few judged
    (rw c.in-Ok-Same.field-0-is at c.in-Ok-Same.ensures.judged)
