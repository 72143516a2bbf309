use Rattle.std.proofs.Common.{◌≡◌, ◌∙◌, cond, sym}
use Rattle.audit_core.proofs.JudgeLemmas.{reserve_is}
use Rattle.audit_core.proofs.judge.Judge.can_end.Goals as goal
use Rattle.audit_core.proofs.judge.Judge.can_end.Goals.{then-is_closed, else-is_closed}

pub returns : goal.returns
returns c =
    let closes : c.if-is_closed.closing ≡ cond c.self.inside.state.machine.world.closed 0 1 = elim c.if-is_closed.branch [
      | then-is_closed w ↦ rw (sym c.is_closed.ensures ∙ w.if-is_closed.true) w.closing-is
      | else-is_closed w ↦ rw (sym c.is_closed.ensures ∙ w.if-is_closed.false) w.closing-is
    ] in
    rw (← c.self.view_is, c.in-Some.is)
    (c.has_reserve.ensures ∙ reserve_is c.self.inside.state.machine.world c.in-Some.most c.self.inside.place c.live_processes-live.result c.if-is_closed.closing
    c.live_processes-live.ensures closes)
