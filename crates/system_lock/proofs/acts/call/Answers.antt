use Rattle.system_lock.proofs.KernelLaws as laws
use Rattle.system_lock.proofs.acts.call.Goals as goal

-- src/acts.rt:30:1
pub returns-clause-calls : goal.returns-clause-calls
returns-clause-calls g c = laws.called _ _ _ _ _ _ c.calls_end_or_wait.ensures.calls c.start.ensures.recorded c.start.ensures.not_refused
    c.start.ensures.unchanged
