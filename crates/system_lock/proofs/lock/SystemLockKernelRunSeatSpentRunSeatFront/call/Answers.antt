use Rattle.std.proofs.Common.{List, ◌∙◌, ap, subst}
use mathlib.Core.List.{IsPrefix}
use Rattle.call_types.specs.declared.act.Record.{Record}
use Rattle.system_lock.specs.System.{SystemState}
use Rattle.system_lock.proofs.lock.SystemLockKernelRunSeatSpentRunSeatFront.call.Goals as goal

pub returns-clause-refused : goal.returns-clause-refused
returns-clause-refused g c h p =
    rw c.prepare.ensures at (c.call-told.ensures.refused h (subst (λ (l : List Record). IsPrefix l h)
    (c.front.ensures ∙ ap (λ (s : SystemState). s.book_is.history) c.deref.ensures) (c.catch_up.ensures.others h p)))
