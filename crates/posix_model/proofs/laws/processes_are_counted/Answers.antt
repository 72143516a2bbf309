use Rattle.posix_model.proofs.ProcessLaws.{step_tells_processes, step_plans_processes}
use Rattle.posix_model.proofs.laws.processes_are_counted.Goals as goal

pub returns : goal.returns
returns c = record { told = step_tells_processes; planned = step_plans_processes }
