use Rattle.std.proofs.Common.{List, ◌∙◌, ap, subst}
use mathlib.Core.List.{IsPrefix}
use Rattle.call_types.specs.declared.act.Record.{Record}
use Rattle.system_lock.specs.System.{SystemState}
use Rattle.std.specs.Prelude.{Err}
use Rattle.system_lock.proofs.SaysLaws.{not_opened_in}
use Rattle.system_lock.proofs.lock.SystemLockKernelRunSeatSpentRunSeatFront.open.Goals as goal

pub returns-clause-refused : goal.returns-clause-refused
returns-clause-refused g c h p =
    not_opened_in _ h c.deref_mut.result.now.book_is c.open-opened.new.self.book_is c.args.request (Err c.in-Err.refusal) c.in-Err.ensures.stood
    (c.in-Err.ensures.grows h (subst (λ (l : List Record). IsPrefix l h) (c.front.ensures ∙ ap (λ (s : SystemState). s.book_is.history) c.deref.ensures)
    (c.catch_up.ensures.others h p))) c.in-Err.ensures.event
