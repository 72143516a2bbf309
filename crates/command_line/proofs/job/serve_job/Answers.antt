use Rattle.std.proofs.Common.{refl, inl, inr}
use Rattle.command_line.proofs.job.serve_job.Goals as goal

pub returns-in-Err-clause-fault : goal.returns-in-Err-clause-fault
returns-in-Err-clause-fault c = (inr (inl (refl, inr (inr c.in-Err.ensures.refused))), c.in_ok-error-in-Err.ensures)
