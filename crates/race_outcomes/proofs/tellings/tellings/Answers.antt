use Rattle.std.proofs.Common.{rules, ◌≡◌, [], subst}
use Rattle.std.proofs.lemmas.Option.{slice_get_within}
use Rattle.race_outcomes.specs.Moves.{move}
use Rattle.race_outcomes.specs.Search.{EndsAt}
use Rattle.race_outcomes.specs.Proved.Tellings.{seats_from, SaidAll}
use Rattle.race_outcomes.proofs.TellingLemmas.{are_told, all_at_ends}
use Rattle.race_outcomes.proofs.tellings.tellings.Goals as goal

pub told_all-requires : goal.told_all-requires
told_all-requires c = λ place has.
    let end : EndsAt (move c.args.race.now.limits.bounds c.args.race.now.lanes) c.args.explored.now.met place = c.requires.ends place (search rules) in
    slice_get_within c.args.explored.now.met place end.entry end.stands

pub returns : goal.returns
returns c =
    let said : SaidAll c.args.calls.now c.all-2.result.now c.args.explored.now.met c.args.explored.now.ends c.in_ok-told.told.items =
    subst (λ ends. SaidAll c.args.calls.now c.all-2.result.now c.args.explored.now.met ends c.in_ok-told.told.items) c.ends.ensures c.in_ok-told.ensures in
    let seated : c.all-2.result.now ≡ seats_from c.args.race.now.lanes [] c.args.calls.now = search rules in
    record {
      all = λ world. are_told c.args.race.now.limits.bounds c.args.race.now.lanes c.args.calls.now world c.args.explored.now c.all-2.result.now
          c.in_ok-told.told.items c.put_in_order.new.told.items
          c.requires.lanes seated said c.put_in_order.ensures.sound c.put_in_order.ensures.kept c.put_in_order.ensures.rising;
      places = all_at_ends (move c.args.race.now.limits.bounds c.args.race.now.lanes) c.args.explored.now c.args.calls.now c.all-2.result.now
          c.in_ok-told.told.items c.put_in_order.new.told.items
          c.requires.ends (subst (λ lanes. c.all-2.result.now ≡ seats_from lanes [] c.args.calls.now) c.requires.lanes seated) said
          c.put_in_order.ensures.sound;
    }
