-- What may be wanting for a session of a run (own).
use Rattle.run_core.specs.declared.report.RunFault.{RunFault}
use Rattle.run_core.specs.declared.report.RunFault.TheVariants as fault
use Rattle.run_core.specs.declared.sessions.Want.{Want}
use Rattle.run_core.specs.declared.sessions.Want.TheVariants as want

-- the fault of a run in which this was wanting for a session
abbrev pub fault_of_want : Want → RunFault
fault_of_want want.Memory = fault.NoMemory
fault_of_want want.Thread = fault.NoThread
