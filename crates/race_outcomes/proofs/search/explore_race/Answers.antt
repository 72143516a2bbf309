use Rattle.std.proofs.Common.{rules, ◌≡◌, sym, subst, arith, length, []}
use Rattle.race_outcomes.specs.Moves.{move}
use Rattle.race_outcomes.specs.Orders.{MoreOrders}
use Rattle.race_outcomes.specs.Outcomes.{start_of}
use Rattle.race_outcomes.specs.Search.{IsExplored}
use Rattle.race_outcomes.specs.Proved.Search.{SoFar}
use Rattle.race_outcomes.specs.Proved.Spots.{met_in}
use Rattle.race_outcomes.proofs.SearchLemmas.{no_room, begun_so, one_more_place, all_explored}
use Rattle.race_outcomes.proofs.SpotLemmas.{as_many}
use Rattle.race_outcomes.proofs.search.explore_race.Goals as goal

pub returns-then-most-eq0-clause-many : goal.returns-then-most-eq0-clause-many
returns-then-most-eq0-clause-many c = λ given_up. subst (λ n. MoreOrders (move c.args.race.now.limits.bounds c.args.race.now.lanes)
    (start_of c.args.race.now.lanes c.args.world) n) (search rules) (no_room (move c.args.race.now.limits.bounds c.args.race.now.lanes)
    (start_of c.args.race.now.lanes c.args.world))

pub loop-place-init : goal.loop-place-init
loop-place-init c = (
  subst (λ ends. SoFar (move c.args.race.now.limits.bounds c.args.race.now.lanes) (start_of c.args.race.now.lanes c.args.world) c.args.most 0
      (met_in c.in_ok-search.search) ends) (sym c.new-ends.ensures)
      (subst (λ met. SoFar (move c.args.race.now.limits.bounds c.args.race.now.lanes) (start_of c.args.race.now.lanes c.args.world) c.args.most 0 met [])
      (sym c.in_ok-search.ensures.begun) (begun_so (move c.args.race.now.limits.bounds c.args.race.now.lanes) (start_of c.args.race.now.lanes c.args.world)
      c.args.most (omega arith))),
  c.in_ok-search.ensures.kept,
)

pub returns-then-place-len-clause-all : goal.returns-then-place-len-clause-all
returns-then-place-len-clause-all c =
    let many : length (met_in c.loop-place.search) ≡ length c.loop-place.search.met =
    as_many c.loop-place.search.worlds c.loop-place.search.rows c.loop-place.search.met in
    subst (λ found. IsExplored (move c.args.race.now.limits.bounds c.args.race.now.lanes) (start_of c.args.race.now.lanes c.args.world) found)
    (sym c.found.ensures)
    (all_explored (move c.args.race.now.limits.bounds c.args.race.now.lanes) (start_of c.args.race.now.lanes c.args.world) c.args.most c.loop-place.place
    (met_in c.loop-place.search) c.loop-place.ends (omega (arith, many)) c.loop-place.invariant.0)

pub loop-place-preserved : goal.loop-place-preserved
loop-place-preserved c =
    let many : length (met_in c.loop-place.search) ≡ length c.loop-place.search.met =
    as_many c.loop-place.search.worlds c.loop-place.search.rows c.loop-place.search.met in (
      one_more_place (move c.args.race.now.limits.bounds c.args.race.now.lanes) (start_of c.args.race.now.lanes c.args.world) c.args.most c.loop-place.place
          (met_in c.loop-place.search) (met_in c.take_moves.new.search) c.loop-place.ends c.note_end.new.ends c.in_ok-moved.moved
          (omega (arith, many)) c.loop-place.invariant.0 c.in_ok-moved.ensures.ok c.in_ok-note_end.ensures,
      c.in_ok-moved.ensures.kept,
    )

pub returns-clause-all : goal.returns-clause-all
returns-clause-all c = subst (λ found. IsExplored (move c.args.race.now.limits.bounds c.args.race.now.lanes) (start_of c.args.race.now.lanes c.args.world)
    found) (sym c.found-2.ensures)
    (all_explored (move c.args.race.now.limits.bounds c.args.race.now.lanes) (start_of c.args.race.now.lanes c.args.world) c.args.most c.loop-place.place
    (met_in c.loop-place.search) c.loop-place.ends (omega (arith, c.loop-place.invariant.0.searched.few)) c.loop-place.invariant.0)
