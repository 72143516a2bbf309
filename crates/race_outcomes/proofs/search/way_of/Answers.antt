use Rattle.race_outcomes.proofs.SpotLemmas.{finds_new}
use Rattle.race_outcomes.proofs.search.way_of.Goals as goal

pub returns : goal.returns
returns c = finds_new c.args.race.now.limits.bounds c.args.race.now.lanes c.args.search.now c.learn_way.new.search c.args.turn c.len-place.result
    c.requires.kept c.in_ok-learn_way.ensures c.len-place.ensures
