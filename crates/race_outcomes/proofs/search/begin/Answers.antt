use Rattle.std.proofs.Common.{rules}
use Rattle.race_outcomes.proofs.SpotLemmas.{begins_kept, begins_so}
use Rattle.race_outcomes.proofs.search.begin.Goals as goal

pub returns-clause-kept : goal.returns-clause-kept
returns-clause-kept c = begins_kept c.args.race.now.limits.bounds c.args.race.now.lanes c.args.world
    (record { worlds = c.add.new.self; rows = c.add-2.new.self; ways = c.in_ok-ways.ways; met = c.add-3.new.self })
    (search rules) (search rules) (search rules) (search rules)

pub returns-clause-begun : goal.returns-clause-begun
returns-clause-begun c = begins_so c.args.race.now.lanes c.args.world (record {
  worlds = c.add.new.self;
  rows = c.add-2.new.self;
  ways = c.in_ok-ways.ways;
  met = c.add-3.new.self;
})
    (search rules) (search rules) (search rules)
