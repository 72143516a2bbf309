use Rattle.std.proofs.Common.{arith, ◌≡◌, [], take, sym, subst}
use Rattle.race_outcomes.specs.Lanes.{IsPlaceOf}
use Rattle.race_outcomes.specs.Proved.Tellings.{lane_place, seat_of, seats_from}
use Rattle.race_outcomes.proofs.TellingLemmas.{place_is, one_more_seat}
use Rattle.race_outcomes.proofs.tellings.seats_of.Goals as goal

pub loop-index-preserved : goal.loop-index-preserved
loop-index-preserved c =
    let lane : c.place_of-lane.result ≡ lane_place c.index-calls-index.result.process c.args.lanes.now =
    place_is c.index-calls-index.result.process c.args.lanes.now c.place_of-lane.result
    (subst (λ call. IsPlaceOf call.process c.args.lanes.now c.place_of-lane.result) (sym c.index-calls-index.is) c.place_of-lane.ensures) in
    let seat : record { lane = c.place_of-lane.result; place = c.made_by-place.result } ≡ seat_of c.args.lanes.now (take c.loop-index.index c.args.calls.now)
    c.index-calls-index.result = cc (lane, c.made_by-place.ensures) in
    one_more_seat c.args.lanes.now c.args.calls.now c.loop-index.seats c.push.new.self (seats_from c.args.lanes.now [] c.args.calls.now) c.loop-index.index
    c.index-calls-index.result (record { lane = c.place_of-lane.result; place = c.made_by-place.result })
    (omega arith) c.index-calls-index.is seat c.in_ok-push.ensures.ok c.loop-index.invariant
