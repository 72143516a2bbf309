use Rattle.std.proofs.Common.{rules, ap}
use Rattle.logged_streams.specs.Streams.{LoggedReaderState}
use Rattle.request_pump.proofs.OverLemmas as laws
use Rattle.request_pump.proofs.pump.pump.Goals as goal

pub returns-in-Err-clause-pumps : goal.returns-in-Err-clause-pumps
returns-in-Err-clause-pumps g c = laws.unread _ _ _ _ _ _ _ c.new-source.ensures c.new-ring.ensures.producer c.new-ring.ensures.pushes c.ended.ensures

pub returns-clause-pumps : goal.returns-clause-pumps
returns-clause-pumps g c =
    laws.pumps _ _ _ _ _ _ _ _ _ _ _ (ap (λ (r : LoggedReaderState). r.remaining) c.new-source.ensures) c.new-ring.ensures.producer
    c.pump_often-end.ensures.ring c.pump_often-end.ensures.pumps c.pump_often-end.ensures.rings c.pump_often-end.ensures.few
    (search rules) c.ended-2.ensures

pub returns-clause-rings : goal.returns-clause-rings
returns-clause-rings g c = laws.rings _ _ _ _ _ _ _ _ (ap g.B.Bell.rings c.new-ring.ensures.bell) c.pump_often-end.ensures.rings c.ended-2.ensures
