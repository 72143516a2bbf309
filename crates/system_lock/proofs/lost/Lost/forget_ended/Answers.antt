use Rattle.std.proofs.Common.{rules}
use Rattle.std.proofs.lemmas.Fn.{filter_same}
use Rattle.system_lock.specs.System.{is_live_in}
use Rattle.system_lock.proofs.lost.Lost.forget_ended.Goals as goal

pub returns : goal.returns
returns g c = filter_same _ (λ process. is_live_in c.args.book.now process) _ (λ x b f' k. search rules) _ _ c.retain.ensures.filtered
