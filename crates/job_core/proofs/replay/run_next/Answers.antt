use Rattle.job_core.proofs.RunLemmas.{told_as_read, told_next}
use Rattle.job_core.proofs.replay.run_next.Goals as goal

pub put_line-requires : goal.put_line-requires
put_line-requires c = told_as_read c.args.act c.run_act-told.result c.args.line.now c.run_act-told.ensures.own c.requires

pub returns : goal.returns
returns c =
    told_next c.args.run.now c.run_act-told.new.self c.args.act c.run_act-told.result c.args.lines.now.items c.put_line.new.out.items c.put_line.result
    c.run_act-told.ensures.tells c.run_act-told.ensures.limits c.put_line.ensures
