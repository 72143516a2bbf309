use Rattle.std.proofs.Common.{List, ◌∙◌, ap, subst}
use mathlib.Core.List.{IsPrefix}
use Rattle.call_types.specs.declared.act.Record.{Record}
use Rattle.system_lock.specs.System.{SystemState}
use Rattle.system_lock.proofs.lock.SystemLockKernelRunSeatSpentRunSeatFront.hang_up.Goals as goal

pub returns-clause-ended : goal.returns-clause-ended
returns-clause-ended g c h p =
    c.hang_up-ended.ensures.ended h (subst (λ (l : List Record). IsPrefix l h) (c.front.ensures ∙ ap (λ (s : SystemState). s.book_is.history) c.deref.ensures)
    (c.catch_up.ensures.others h p))
