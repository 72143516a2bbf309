use Rattle.posix_model.proofs.SoundActs.{calls_are_sound}
use Rattle.posix_model.proofs.laws.calls_are_sound.Goals as goal

pub returns : goal.returns
returns c = calls_are_sound
