use Rattle.std.proofs.Common.{◌≡◌, drop}
use Rattle.race_outcomes.specs.Setups.{set_up_from, set_up}
use Rattle.race_outcomes.proofs.setup.set_up.Given as goal

-- the acts that are left lead on from what was set up so far to what all set up
abbrev pub invariant-loop-act : goal.invariant-loop-act
invariant-loop-act l = set_up_from l.limits.bounds l.setup (drop l.act-index l.acts) ≡ set_up l.limits.bounds l.acts
