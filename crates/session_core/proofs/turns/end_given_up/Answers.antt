use Rattle.std.proofs.Common.{subst}
use Rattle.call_types.specs.declared.refusal.Refusal.TheVariants as refusal
use Rattle.system_lock.specs.Kernel.{EndsBy}
use Rattle.session_core.proofs.WaitLemmas as laws
use Rattle.session_core.proofs.turns.end_given_up.Goals as goal

pub returns-in-NoMemory-clause-gives : goal.returns-in-NoMemory-clause-gives
returns-in-NoMemory-clause-gives g c base handled call seat waits ends =
    laws.ended_by base handled call seat c.args.ended.seat _ _ refusal.NoMemory _ c.put_given_up.ensures waits
    (subst (EndsBy seat c.args.ended.seat) c.in-NoMemory.is ends)

pub returns-in-RunFull-clause-gives : goal.returns-in-RunFull-clause-gives
returns-in-RunFull-clause-gives g c base handled call seat waits ends =
    laws.ended_by base handled call seat c.args.ended.seat _ _ refusal.RunFull _ c.put_given_up-in-RunFull.ensures waits
    (subst (EndsBy seat c.args.ended.seat) c.in-RunFull.is ends)
