use Rattle.posix_model.proofs.Resuming.{resume_breaks_alone, broken_step_unparks, broken_next_unparks}
use Rattle.posix_model.proofs.pipe_laws.resume_breaks_alone.Goals as goal

pub returns : goal.returns
returns c = record { decided = resume_breaks_alone; step = broken_step_unparks; history = broken_next_unparks }
