use Rattle.posix_model.proofs.TurnLaws as laws
use Rattle.posix_model.proofs.pipe_laws.calls_end_or_wait.Goals as goal

pub returns-clause-calls : goal.returns-clause-calls
returns-clause-calls c = laws.calls_end_or_wait

pub returns-clause-resumes : goal.returns-clause-resumes
returns-clause-resumes c = laws.resumes_end_or_go_on
