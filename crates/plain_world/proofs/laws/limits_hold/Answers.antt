use Rattle.plain_world.proofs.LimitLaws.{step_keeps_limits, limits_hold}
use Rattle.plain_world.proofs.laws.limits_hold.Goals as goal

pub returns : goal.returns
returns c = record {
  step = step_keeps_limits c.acts_are_sound.ensures c.sweep_leaves_wanted.ensures;
  history = limits_hold c.acts_are_sound.ensures c.sweep_leaves_wanted.ensures;
}
