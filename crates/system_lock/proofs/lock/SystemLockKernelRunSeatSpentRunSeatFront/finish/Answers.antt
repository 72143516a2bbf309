use Rattle.std.proofs.Common.{List, ◌∙◌, ap, rules, subst}
use mathlib.Core.List.{IsPrefix}
use Rattle.call_types.specs.declared.act.Record.{Record}
use Rattle.system_lock.specs.System.{SystemState}
use Rattle.record_book.specs.Seat.{SeatState}
use Rattle.system_lock.specs.Says.{IsEnded}
use Rattle.system_lock.proofs.lock.SystemLockKernelRunSeatSpentRunSeatFront.finish.Goals as goal

pub returns-in-Ended-clause-ended : goal.returns-in-Ended-clause-ended
returns-in-Ended-clause-ended g c h p =
    subst (λ (s : SeatState). IsEnded g.L.Ledgers.limits h s c.in-Ended.ended.seat c.in-Ended.ended.why) c.loop.invariant.seat
    (c.in-Ended.ensures.ended h (subst (λ (l : List Record). IsPrefix l h) (c.front.ensures ∙ ap (λ (s : SystemState). s.book_is.history) c.deref.ensures)
    (c.catch_up.ensures.others h p)))

pub returns-in-Resumed-clause-grows : goal.returns-in-Resumed-clause-grows
returns-in-Resumed-clause-grows g c h p = c.loop.invariant.grows h (c.catch_up.ensures.own h p)

pub returns-in-Ended-clause-grows : goal.returns-in-Ended-clause-grows
returns-in-Ended-clause-grows g c h p = c.loop.invariant.grows h (c.catch_up.ensures.own h p)

pub loop-preserved : goal.loop-preserved
loop-preserved g c = record { seat = search rules; grows = λ h p. c.loop.invariant.grows h (c.catch_up.ensures.own h p); goes = tt; ends = tt }
