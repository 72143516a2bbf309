use Rattle.audit_core.proofs.JudgeLemmas.{can_make}
use Rattle.audit_core.proofs.judge.Judge.can_make.Goals as goal

pub returns : goal.returns
returns c =
    rw (← c.self.view_is) (can_make c.acts_are_sound.ensures c.numbers_rise.ensures.step_whole _ c.args.actor c.args.act.now c.args.decided.now
    c.self.invariant.whole c.self.invariant.small (rw (← c.self.view_is) at c.requires))
