use Rattle.std.proofs.Common.{ap}
use Rattle.std.proofs.lemmas.Result.{IfErr-weaker}
use Rattle.call_types.specs.declared.limits.Limits.{Limits}
use Rattle.job_core.proofs.RaceLemmas.{unprinted}
use Rattle.job_core.proofs.outcomes.told_of.Goals as goal

pub returns-clause-fault : goal.returns-clause-fault
returns-clause-fault c =
    IfErr-weaker c.print-printed.result _ _
    (λ end h. unprinted c.args.limits.bounds c.args.most c.args.telling c.args.text.now c.in_ok-search.search end
    (ap (λ (l : Limits). l.bounds) c.in_ok-search.ensures.limits) c.in_ok-search.ensures.ready
    c.in_ok-search.ensures.search h) c.print-printed.ensures.fault
