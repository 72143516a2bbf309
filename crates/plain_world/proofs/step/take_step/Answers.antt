use Rattle.std.proofs.Common.{◌∙◌, sym}
use Rattle.plain_world.proofs.step.take_step.Goals as goal

pub make_step-requires : goal.make_step-requires
make_step-requires c =
    let is = sym c.in_ok-decided.ensures ∙ c.in-Some.is in
    (c.acts_are_sound.ensures c.bounds-bounds.result c.args.world.now c.args.actor c.args.act.now c.in-Some.decided is).proper c.bounds-bounds.ensures.small
