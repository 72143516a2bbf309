use Rattle.std.proofs.Common.{rules, ◌<◌, sym, subst, length, refl}
use Rattle.std.specs.List.{slice_get}
use Rattle.race_outcomes.specs.Proved.Spots.{IsWithin}
use Rattle.race_outcomes.proofs.PlaceLemmas.{none_some, some_there}
use Rattle.race_outcomes.proofs.SpotLemmas.{copied_within, cannot_move, can_move}
use Rattle.race_outcomes.proofs.search.make_move.Goals as goal

pub unreachable-requires : goal.unreachable-requires
unreachable-requires c =
    let within : IsWithin c.args.search.now.worlds c.args.search.now.rows c.in_ok-spot.spot =
    copied_within c.args.race.now.limits.bounds c.args.race.now.lanes c.args.search.now c.args.by.from c.in_ok-spot.spot c.requires.kept c.requires.within
    c.in_ok-spot.ensures in
    let there = some_there c.args.search.now.rows c.in-Some.row.now (within.in_rows c.args.by.lane c.in-Some.row.now (search rules)) in
    none_some (slice_get c.args.search.now.rows c.in-Some.row.now) there.0 (search rules) there.1

pub way_of-requires-clause-within : goal.way_of-requires-clause-within
way_of-requires-clause-within c = (copied_within c.args.race.now.limits.bounds c.args.race.now.lanes c.args.search.now c.args.by.from c.in_ok-spot.spot
    c.requires.kept c.requires.within c.in_ok-spot.ensures).in_worlds

pub spot_after-requires : goal.spot_after-requires
spot_after-requires c =
    let within : IsWithin c.args.search.now.worlds c.args.search.now.rows c.in_ok-spot.spot =
    copied_within c.args.race.now.limits.bounds c.args.race.now.lanes c.args.search.now c.args.by.from c.in_ok-spot.spot c.requires.kept c.requires.within
    c.in_ok-spot.ensures in
    subst (λ rows. c.in-Some.row.now < length rows) (sym c.in_ok-place.ensures.rows) (within.in_rows c.args.by.lane c.in-Some.row.now (search rules))

pub returns-in_ok-spot_after-in-Some-to : goal.returns-in_ok-spot_after-in-Some-to
returns-in_ok-spot_after-in-Some-to c =
    let mid = c.way_of.new.search in
    can_move c.args.race.now.limits.bounds c.args.race.now.lanes c.args.search.now mid
    (record { worlds = mid.worlds; rows = c.spot_after.new.rows; ways = mid.ways; met = mid.met }) c.args.by
    c.in_ok-spot.spot c.in_ok-spot_after-in-Some-to.field-0
    (record { world = c.in_ok-spot.spot.world; lane = c.args.by.lane; begun = length c.in-Some-get.told.now })
    c.in_ok-place.place c.in-Some.row.now c.in-Some-get.told.now c.in-Some-get-2.way.now c.in-Some-to.to c.requires.kept c.requires.within c.in_ok-spot.ensures
    (search rules) (search rules) refl (search rules) (search rules) (search rules) refl refl refl c.in_ok-spot_after-in-Some-to.ensures

pub returns-in-None-to : goal.returns-in-None-to
returns-in-None-to c =
    cannot_move c.args.race.now.limits.bounds c.args.race.now.lanes c.args.search.now c.way_of.new.search c.args.by
    c.in_ok-spot.spot (record { world = c.in_ok-spot.spot.world; lane = c.args.by.lane; begun = length c.in-Some-get.told.now })
    c.in_ok-place.place c.in-Some.row.now c.in-Some-get.told.now c.in-Some-get-2.way.now c.requires.kept c.requires.within c.in_ok-spot.ensures
    (search rules) (search rules) refl (search rules) (search rules) (search rules)
