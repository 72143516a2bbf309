use Rattle.std.proofs.Common.{ap, ◌∙◌}
use Rattle.rtrb.specs.Ring.{sent, producer_capacity}
use Rattle.request_pump.proofs.PumpLemmas as laws
use Rattle.request_pump.proofs.pump.pump_piece.Goals as goal

pub returns-in-Err-clause-pumps : goal.returns-in-Err-clause-pumps
returns-in-Err-clause-pumps g c = laws.no_memory c.cuts_do_not_matter.ensures.requests (producer_capacity c.args.ring.now.producer) c.args.piece.now _
    c.feed.new.self _

pub returns-in-Err-push_all-clause-pumps : goal.returns-in-Err-push_all-clause-pumps
returns-in-Err-push_all-clause-pumps g c = laws.ahead c.cuts_do_not_matter.ensures.requests _ c.args.piece.now _ _ _ _ _ _ _ c.in-Ok.ensures.fed
    c.in-Err-push_all.ensures.full

pub returns-in-More-clause-pumps : goal.returns-in-More-clause-pumps
returns-in-More-clause-pumps g c =
    laws.piece_pushed (producer_capacity c.end_of_piece.new.self.producer) c.args.piece.now _ _ _ _ _ _ c.in-Ok.ensures.fed
    (ap sent c.end_of_piece.ensures.producer ∙ c.in-Ok-push_all.ensures.ok) c.in-More.is

pub returns-in_default-clause-pumps : goal.returns-in_default-clause-pumps
returns-in_default-clause-pumps g c =
    laws.malformed c.cuts_do_not_matter.ensures.requests (producer_capacity c.end_of_piece.new.self.producer) c.args.piece.now _ _ _ _ _ _ c.in-Ok.ensures.fed
    (ap sent c.end_of_piece.ensures.producer ∙ c.in-Ok-push_all.ensures.ok) c.in_default.not-More
