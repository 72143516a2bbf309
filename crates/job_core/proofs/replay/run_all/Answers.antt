use Rattle.job_core.proofs.RunLemmas.{runs_none, runs_one_more}
use Rattle.job_core.proofs.replay.run_all.Goals as goal

pub loop-act-init : goal.loop-act-init
loop-act-init c = runs_none c.args.script.now.read c.args.run.now c.args.lines.now.items

pub loop-act-preserved : goal.loop-act-preserved
loop-act-preserved c = runs_one_more c.args.script.now.read c.loop-act.script.read c.next_act.new.self.read c.args.run.now c.loop-act.run c.run_next.new.run
    c.args.lines.now.items c.loop-act.lines.items c.run_next.new.lines.items
    c.in-Some.act c.loop-act.invariant (rw c.in-Some.is at c.in_ok-act.ensures.gives) (rw c.in-Ok.is at c.run_next.ensures)
