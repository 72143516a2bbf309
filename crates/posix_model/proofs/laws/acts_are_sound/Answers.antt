use Rattle.posix_model.proofs.SoundActs.{acts_are_sound}
use Rattle.posix_model.proofs.laws.acts_are_sound.Goals as goal

pub returns : goal.returns
returns c = acts_are_sound
