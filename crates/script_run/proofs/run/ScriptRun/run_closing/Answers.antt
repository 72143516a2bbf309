use Rattle.std.proofs.Common.{◌≡◌, ◌∙◌, false, [], ◌∷◌, ◌++◌, ap, sym, subst, arith}
use Rattle.record_book.specs.RunState.{RunState}
use Rattle.script_run.specs.Fits.{FitsRun}
use Rattle.script_run.specs.Proved.Closing.{ClosesBy, OrphansEnd}
use Rattle.script_run.proofs.ClosingLemmas.{closes_by, closes_limits}
use Rattle.script_run.proofs.GoingLemmas.{closing_still, closing_to}
use Rattle.script_run.proofs.run.ScriptRun.run_closing.Goals as goal

pub returns-then-is_closed-clause-tells : goal.returns-then-is_closed-clause-tells
returns-then-is_closed-clause-tells c b seats fits =
    closing_still b seats c.args.self.now fits (sym (c.is_closed.ensures ∙ ap (λ (s : RunState). s.world.closed) c.self.view_is) ∙ c.if-is_closed.true)

pub end_orphans-requires : goal.end_orphans-requires
end_orphans-requires c =
    let open_now : c.self.inside.progress.world.closed ≡ false = sym c.is_closed.ensures ∙ c.if-is_closed.false in
    rw c.replace-told.ensures.value (omega (arith, c.self.invariant.room open_now, c.has_reserve.ensures.few))

pub returns-clause-tells : goal.returns-clause-tells
returns-clause-tells c b seats fits =
    let s = c.self.inside.progress in
    let t = c.append_closing.new.progress in
    let exits = c.end_orphans.new.told.items in
    let open_now : s.world.closed ≡ false = sym c.is_closed.ensures ∙ c.if-is_closed.false in
    let ends : OrphansEnd s c.end_orphans.new.progress [] exits = rw (c.replace-told.ensures.value, c.self.invariant.none) at c.end_orphans.ensures.ends in
    let closes : ClosesBy s t (exits ++ c.append_closing.result ∷ []) =
    closes_by c.processes_are_counted.ensures.planned s c.end_orphans.new.progress t exits c.append_closing.result open_now ends c.append_closing.ensures.grows
    c.append_closing.ensures.record_is in
    closing_to b seats s t c.push_reserved.new.self (subst (FitsRun b seats) (sym c.self.view_is) fits)
    (subst (ClosesBy s t) (sym c.push_reserved.ensures.items) closes)

pub returns-clause-limits : goal.returns-clause-limits
returns-clause-limits c =
    let s = c.self.inside.progress in
    let t = c.append_closing.new.progress in
    let exits = c.end_orphans.new.told.items in
    let open_now : s.world.closed ≡ false = sym c.is_closed.ensures ∙ c.if-is_closed.false in
    let ends : OrphansEnd s c.end_orphans.new.progress [] exits = rw (c.replace-told.ensures.value, c.self.invariant.none) at c.end_orphans.ensures.ends in
    let closes : ClosesBy s t (exits ++ c.append_closing.result ∷ []) =
    closes_by c.processes_are_counted.ensures.planned s c.end_orphans.new.progress t exits c.append_closing.result open_now ends c.append_closing.ensures.grows
    c.append_closing.ensures.record_is in
    closes_limits s t (exits ++ c.append_closing.result ∷ []) closes ∙ ap (λ (x : RunState). x.limits) c.self.view_is
