use Rattle.job_core.proofs.job_end.JobEndDisplay.fmt.Goals as goal

pub returns-in-BadLine-clause-writes : goal.returns-in-BadLine-clause-writes
returns-in-BadLine-clause-writes g c = rw c.in-BadLine.is c.write.ensures.writes
