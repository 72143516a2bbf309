use Rattle.system_lock.proofs.FewLaws as laws
use Rattle.system_lock.proofs.watch.live_are_few.Goals as goal

pub returns : goal.returns
returns c = laws.live_are_few c.processes_are_counted.ensures.planned
