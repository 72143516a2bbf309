use Rattle.std.proofs.Common.{rules, ◌<◌, sym, subst, length}
use Rattle.race_outcomes.specs.Moves.{move}
use Rattle.race_outcomes.specs.Proved.Spots.{met_in}
use Rattle.race_outcomes.proofs.MoveLemmas.{move_past}
use Rattle.race_outcomes.proofs.SearchLemmas.{still_within, all_below}
use Rattle.race_outcomes.proofs.SpotLemmas.{as_many}
use Rattle.race_outcomes.proofs.search.take_moves.Goals as goal

pub take_move-requires-clause-within : goal.take_move-requires-clause-within
take_move-requires-clause-within c =
    let now = c.loop-lane.search in
    let old = c.args.search.now in
    subst (λ n. c.args.place < n) (as_many now.worlds now.rows now.met)
    (still_within (met_in old) (met_in now) c.args.place c.loop-lane.invariant.0.kept
    (subst (λ n. c.args.place < n) (sym (as_many old.worlds old.rows old.met)) c.requires.within))

pub returns-clause-ok : goal.returns-clause-ok
returns-clause-ok c =
    let old = c.args.search.now in
    all_below (move c.args.race.now.limits.bounds c.args.race.now.lanes) c.args.most c.args.place (length c.args.race.now.lanes) (met_in old)
    (met_in c.loop-lane.search) c.loop-lane.moved
    (subst (λ n. c.args.place < n) (sym (as_many old.worlds old.rows old.met)) c.requires.within)
    (move_past c.args.race.now.limits.bounds c.args.race.now.lanes) (search rules)
