-- How a run ends of which no line is written (own).
use Rattle.run_core.specs.declared.report.RunFault.{RunFault}
use Rattle.run_core.specs.declared.report.RunFault.TheVariants as fault
use Rattle.job_core.specs.declared.job_end.JobEnd.{JobEnd}
use Rattle.job_core.specs.declared.job_end.JobEnd.TheVariants as ended

-- how a run ended that gave no report
abbrev pub end_without_report : RunFault → JobEnd
end_without_report fault.NoMemory = ended.NoMemory
end_without_report fault.NoThread = ended.NoThread
end_without_report fault.Missing = ended.MissingShare
end_without_report (fault.Disagree place) = ended.Disagree place
