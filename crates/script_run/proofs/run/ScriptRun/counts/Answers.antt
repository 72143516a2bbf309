use Rattle.script_run.proofs.FitsLemmas.{counts_all}
use Rattle.script_run.proofs.run.ScriptRun.counts.Goals as goal

pub returns : goal.returns
returns c =
    rw (← c.self.view_is, c.sums.ensures) (counts_all c.bytes_of_pipe.ensures.bytes c.bytes_of_pipe.ensures.small c.self.inside.progress
    c.has_reserve.ensures.reserve)
