use Rattle.plain_world.proofs.StepLaws.{refused_step_keeps_world, refused_next_keeps_world}
use Rattle.plain_world.proofs.laws.refusal_keeps_world.Goals as goal

pub returns : goal.returns
returns c = record {
  step = refused_step_keeps_world c.acts_are_sound.ensures;
  history = refused_next_keeps_world c.acts_are_sound.ensures c.sweep_settles.ensures.history;
}
