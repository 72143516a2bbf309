use Rattle.job_core.specs.Proved.Running.{RunsOn}
use Rattle.job_core.proofs.replay.run_all.Given as goal

-- what is left to be read falls
abbrev pub decreases-loop-act : goal.decreases-loop-act
decreases-loop-act l = l.script.most

-- what was read was run, and its lines are gathered
abbrev pub invariant-loop-act : goal.invariant-loop-act
invariant-loop-act l = RunsOn l.fn.script.read l.script.read l.fn.run l.run l.fn.lines.items l.lines.items
