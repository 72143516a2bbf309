use Rattle.std.proofs.Common.{◌≡◌, ◌∙◌, List, ◌++◌, ℕ, drop, sym, subst}
use Rattle.frame_codec.specs.Trace.{header}
use Rattle.frame_codec.specs.declared.trace.Header.TheVariants.{Headed}
use Rattle.audit_core.proofs.TakingLemmas.{taken_after, all_kept, header_ends}
use Rattle.audit_core.proofs.trace.TraceAudit.take.Goals as goal

pub returns-then-is_some : goal.returns-then-is_some
returns-then-is_some c input taking few =
    taken_after c.headers_go_on.ensures input c.args.piece.now c.self.inside.front c.self.inside.body c.take_after.new.body c.in_ok-found.found
    (rw (← c.self.view_is) at taking)
    (rw c.in_ok-found.was at c.take_after.ensures) few

pub returns-in_ok-found-in-Headed : goal.returns-in_ok-found-in-Headed
returns-in_ok-found-in-Headed c input taking few =
    let heads = rw c.in-Headed.is at c.in_ok-take.ensures in
    let kept : c.self.inside.front ≡ input = all_kept input c.self.inside.front c.self.inside.body (rw (← c.self.view_is) at taking) (sym c.is_some.ensures ∙
    c.if-is_some.false) in
    header_ends c.headers_go_on.ensures input c.args.piece.now c.take.new.self c.in-Headed.rest.now c.in-Headed.told c.in-Headed.length
    c.take-in-Headed.new.self c.in_ok-found-in-Headed.found
    (subst (λ (f : List ℕ). header (f ++ c.args.piece.now) ≡ Headed c.in-Headed.told c.in-Headed.length) kept heads.0)
    (subst (λ (f : List ℕ). c.in-Headed.rest.now ≡ drop c.in-Headed.length (f ++ c.args.piece.now)) kept heads.1)
    (rw c.new-body.ensures at c.in_ok-found-in-Headed.ensures) few
