use Rattle.std.proofs.Common.{rules}
use Rattle.race_outcomes.proofs.SpotLemmas.{met_before}
use Rattle.race_outcomes.proofs.search.take_in.Goals as goal

pub returns-in-Some-clause-ok : goal.returns-in-Some-clause-ok
returns-in-Some-clause-ok c = met_before c.args.most c.in-Some._place c.args.search.now c.args.next (search rules)
