use Rattle.std.proofs.Common.{rules}
use Rattle.std.proofs.lemmas.Fn.{filter_same}
use Rattle.job_core.specs.Shown.{is_other}
use Rattle.job_core.proofs.shown.drop_child.Goals as goal

pub returns : goal.returns
returns c = filter_same _ (λ process. is_other process c.args.gone) _ (λ x b f' k. search rules) _ _ c.retain.ensures.filtered
