use Rattle.std.proofs.Common.{subst}
use Rattle.std.proofs.lemmas.Result.{IfErr-weaker, IfOk-weaker}
use Rattle.job_core.specs.Proved.Running.{FailsReading}
use Rattle.job_core.proofs.RunLemmas.{output_of}
use Rattle.job_core.proofs.replay.run_script.Goals as goal

pub returns-clause-fault : goal.returns-clause-fault
returns-clause-fault c =
    rw c.leaked_if_ok.ensures (
    IfErr-weaker c.gather_lines-gathered.result _ _
    (λ ended h. subst (λ r. FailsReading r ended) c.in_ok-script.ensures.opened.1 h) c.gather_lines-gathered.ensures.fault)

pub returns-clause-lines : goal.returns-clause-lines
returns-clause-lines c =
    rw c.leaked_if_ok.ensures (
    IfOk-weaker c.gather_lines-gathered.result _ _
    (λ lines h. output_of c.args.limits c.args.text.now c.in_ok-script.script.read c.in_ok-run.run' lines.items h c.in_ok-script.ensures.opened.1
    c.in_ok-run.ensures.fits) c.gather_lines-gathered.ensures.lines)
