use Rattle.std.proofs.Common.{refl}
use Rattle.race_outcomes.proofs.SpotLemmas.{learns}
use Rattle.race_outcomes.proofs.search.learn_way.Goals as goal

pub returns : goal.returns
returns c = learns c.args.race.now.limits.bounds c.args.race.now.lanes c.args.search.now
    (record { worlds = c.name_world.new.worlds; rows = c.args.search.now.rows; ways = c.add.new.self; met = c.args.search.now.met }) c.args.turn
    c.in_ok-going.going c.in_ok-to.to c.requires c.in_ok-going.ensures c.in_ok-to.ensures refl refl c.in_ok-add.ensures.ok
