use Rattle.std.proofs.Common.{rules, sym, ◌∙◌, map-id}
use Rattle.std.proofs.lemmas.Iterator.Adapters.{YieldsList-from_vec}
use Rattle.std.proofs.lemmas.Iterator.Consumers.{YieldsList-so_far, YieldsList-turn}
use Rattle.request_pump.proofs.PushLemmas as laws
use Rattle.request_pump.proofs.inlet.Inlet.push_all.Goals as goal

pub loop-request-preserved : goal.loop-request-preserved
loop-request-preserved g c = record {
  ring = search rules;
  sent = laws.one_pushed _ _ _ _ _ c.loop-request.invariant.sent c.in-Ok.ensures.ok;
  in_a_row = search rules;
  asks = laws.asks_more _ _ _ _ _ _ c.loop-request.invariant.asks c.push.ensures.asks;
}

pub returns-in-Err-clause-full : goal.returns-in-Err-clause-full
returns-in-Err-clause-full g c =
    let all = YieldsList-from_vec c.args.requests.items c.into_iter-request-iterator.ensures.into_iter_gives.0
    (c.into_iter-request-iterator.ensures.into_iter_gives.1 ∙ c.args.requests.ok.0) in
    let at = YieldsList-turn all c.loop-request.yielded c.loop-request.request-iterator c.loop-request.yielded_by c.next.result c.next.new.self
    c.in-Some.request c.in-Some.is c.next.ensures.steps in
    let so_far = sym (map-id c.loop-request.yielded) ∙ YieldsList-so_far all c.loop-request.yielded c.loop-request.request-iterator c.loop-request.yielded_by in
    laws.handed_back _ _ _ _ c.args.requests.items c.loop-request.yielded _ c.in-Some.request _ c.loop-request.invariant.sent
    (laws.next_of c.args.requests.items c.loop-request.yielded c.in-Some.request so_far at.0 at.1) c.in-Err.ensures.full
