use Rattle.plain_world.proofs.StepLaws.{offsets_are_apart, offsets_stay_apart}
use Rattle.plain_world.proofs.laws.offsets_are_apart.Goals as goal

pub returns : goal.returns
returns c = record {
  effect = offsets_are_apart c.acts_are_sound.ensures;
  step = offsets_stay_apart c.acts_are_sound.ensures c.sweep_leaves_wanted.ensures;
}
