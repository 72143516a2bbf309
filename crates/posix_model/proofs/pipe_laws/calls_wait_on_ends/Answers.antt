use Rattle.posix_model.proofs.Waiting.{step_keeps_waits, history_waits}
use Rattle.posix_model.proofs.pipe_laws.calls_wait_on_ends.Goals as goal

pub returns : goal.returns
returns c = record { step = step_keeps_waits; history = history_waits }
