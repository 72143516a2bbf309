use Rattle.posix_model.proofs.SoundActs.{acts_are_sound}
use Rattle.posix_model.proofs.HistoryLaws.{step_keeps_whole}
use Rattle.posix_model.proofs.Waiting.{step_keeps_waits}
use Rattle.posix_model.proofs.PipeLaws.{bytes_of_pipe, small_writes_unbroken}
use Rattle.posix_model.proofs.pipe_laws.bytes_of_pipe.Goals as goal

pub returns : goal.returns
returns c = record {
  bytes = bytes_of_pipe acts_are_sound step_keeps_whole step_keeps_waits;
  small =
      small_writes_unbroken acts_are_sound step_keeps_whole step_keeps_waits;
}
