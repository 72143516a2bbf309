use Rattle.std.proofs.Common.{List, [], append-nil, rules, sym, subst}
use Rattle.rtrb.specs.Ring.{received}
use Rattle.call_types.specs.declared.request.Request.{Request}
use Rattle.session_core.specs.Proved.Desk.{Stands, StandsThere}
use Rattle.session_core.proofs.DeskLemmas as laws
use Rattle.session_core.proofs.serve.put_together.Goals as goal

pub unreachable-requires : goal.unreachable-requires
unreachable-requires g c =
    laws.there c.consumer.inside.front g.K.Kernel.says g.W.Connection.was_shut g.D.Naming.base (received c.consumer.inside.consumer) c.consumer.inside.output
    c.consumer.inside.standing c.consumer.invariant.1 c.in_default.is

pub returns-clause-together : goal.returns-clause-together
returns-clause-together g c h p =
    let there = subst (StandsThere c.consumer.inside.front g.K.Kernel.says g.W.Connection.was_shut g.D.Naming.base
    (received c.consumer.inside.consumer) c.consumer.inside.output) c.in-Some.is c.consumer.invariant.1 in
    let stood = subst (λ (l : List Request). Stands (g.K.Kernel.says h) g.W.Connection.was_shut g.D.Naming.base l c.consumer.inside.output c.in-Some.standing)
    (sym c.slots_beside-count.ensures.looked.1) (there h (c.answer_rest-left.ensures.grows h p)) in
    let ending = (c.answer_rest-left.ensures.ends h p g.D.Naming.base stood).0 in
    search rules

pub returns-clause-shut : goal.returns-clause-shut
returns-clause-shut g c =
    let h = c.answer_rest-left.new.front in
    let there = subst (StandsThere c.consumer.inside.front g.K.Kernel.says g.W.Connection.was_shut g.D.Naming.base
    (received c.consumer.inside.consumer) c.consumer.inside.output) c.in-Some.is c.consumer.invariant.1 in
    let stood = subst (λ (l : List Request). Stands (g.K.Kernel.says h) g.W.Connection.was_shut g.D.Naming.base l c.consumer.inside.output c.in-Some.standing)
    (sym c.slots_beside-count.ensures.looked.1) (there h (c.answer_rest-left.ensures.grows h ([], append-nil h))) in
    let shut = (c.answer_rest-left.ensures.ends h ([], append-nil h) g.D.Naming.base stood).1 in
    search rules
