use Rattle.std.proofs.Common.{arith}
use Rattle.race_outcomes.proofs.SetupLemmas.{run_after_all}
use Rattle.race_outcomes.proofs.setup.set_up.Goals as goal

pub returns-clause-legal : goal.returns-clause-legal
returns-clause-legal c = (run_after_all c.args.limits.bounds c.args.acts.now c.loop-act.setup c.loop-act.act-index (omega arith) c.loop-act.invariant).is_legal

pub returns-clause-world : goal.returns-clause-world
returns-clause-world c = (run_after_all c.args.limits.bounds c.args.acts.now c.loop-act.setup c.loop-act.act-index (omega arith) c.loop-act.invariant).leads
