use Rattle.plain_world.proofs.StepLaws.{takes_few}
use Rattle.plain_world.proofs.laws.write_takes_few.Goals as goal

pub returns : goal.returns
returns c = takes_few c.acts_are_sound.ensures
