use Rattle.std.proofs.Common.{sym, subst, ◌∙◌}
use Rattle.rtrb.specs.Ring.{received}
use Rattle.session_core.specs.Proved.Desk.{StandsThere}
use Rattle.session_core.proofs.DeskLemmas as laws
use Rattle.session_core.proofs.desk.Desk.attend.Goals as goal

pub invariant_of-self : goal.invariant_of-self
invariant_of-self g c =
    let taken = c.take_ready-standing.ensures in
    let sent = c.send_ready-standing.ensures in
    let more = received c.take_ready-standing.new.consumer in
    let stood = subst (StandsThere c.self.inside.front g.K.Kernel.says g.W.Connection.was_shut g.D.Naming.base
    (received c.self.inside.consumer) c.self.inside.output) (sym c.in-Some.ensures.value) c.self.invariant.1 in (
      laws.ring_kept g.D.Naming.ring c.self.inside.consumer c.take_ready-standing.new.consumer c.self.invariant.0 taken.ring,
      subst (StandsThere c.send_ready-standing.new.front g.K.Kernel.says g.W.Connection.was_shut g.D.Naming.base more c.send_ready-standing.new.output)
          (sym c.put_back.ensures.place)
          (λ h p. sent.stands more h p g.D.Naming.base (taken.stands h (sent.grows h p) g.D.Naming.base (stood h (taken.grows h (sent.grows h p))))),
    )

pub unreachable-requires : goal.unreachable-requires
unreachable-requires g c =
    laws.there c.self.inside.front g.K.Kernel.says g.W.Connection.was_shut g.D.Naming.base (received c.self.inside.consumer) c.self.inside.output
    c.self.inside.standing c.self.invariant.1 (sym c.take.ensures.value ∙ c.in_default.is)
