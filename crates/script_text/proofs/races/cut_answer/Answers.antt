use Rattle.std.proofs.Common.{◌∙◌}
use Rattle.script_text.proofs.RaceCuts.{further_at}
use Rattle.script_text.proofs.races.cut_answer.Goals as goal

pub loop-start-preserved : goal.loop-start-preserved
loop-start-preserved c = further_at c.loop-start.start c.args.line.now c.in_default.ensures.cases ∙ c.loop-start.invariant
