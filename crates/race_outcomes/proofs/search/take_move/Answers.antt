use Rattle.std.proofs.Common.{rules, Some}
use Rattle.race_outcomes.proofs.SpotLemmas.{kept_with, takes_move, takes_none, takes_too_many}
use Rattle.race_outcomes.proofs.search.take_move.Goals as goal

pub returns-in_err-take_in-in-Some-clause-many : goal.returns-in_err-take_in-in-Some-clause-many
returns-in_err-take_in-in-Some-clause-many c = λ is.
    takes_too_many c.args.race.now.limits.bounds c.args.race.now.lanes c.args.most c.args.search.now c.make_move.new.search c.args.by c.in-Some.position
    c.requires.within (search rules) (c.take_in.ensures.many (search rules))

pub returns-in_ok-take_in-in-Some-clause-ok : goal.returns-in_ok-take_in-in-Some-clause-ok
returns-in_ok-take_in-in-Some-clause-ok c =
    takes_move c.args.race.now.limits.bounds c.args.race.now.lanes c.args.most c.args.search.now c.make_move.new.search c.take_in.new.search c.args.by
    c.in-Some.position c.requires.within (search rules) c.in_ok-take_in-in-Some.ensures.ok

pub returns-in_ok-take_in-in-Some-clause-kept : goal.returns-in_ok-take_in-in-Some-clause-kept
returns-in_ok-take_in-in-Some-clause-kept c =
    kept_with c.args.race.now.limits.bounds c.args.race.now.lanes c.make_move.new.search c.take_in.new.search
    (record { position = c.in-Some.position; by = Some c.args.by }) (search rules) (search rules) c.in_ok-take_in-in-Some.ensures.kept

pub returns-in-None-clause-ok : goal.returns-in-None-clause-ok
returns-in-None-clause-ok c =
    takes_none c.args.race.now.limits.bounds c.args.race.now.lanes c.args.most c.args.search.now c.make_move.new.search c.args.by c.requires.within
    (search rules)
