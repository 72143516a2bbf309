use Rattle.std.proofs.Common.{arith, slice_index_or, sym, subst}
use Rattle.std.proofs.lemmas.Option.{slice_get-get_or}
use Rattle.race_outcomes.specs.Proved.Tellings.{SaidBelow}
use Rattle.race_outcomes.proofs.PlaceLemmas.{stands_there}
use Rattle.race_outcomes.proofs.TellingLemmas.{nothing_said, one_more_said, all_said}
use Rattle.race_outcomes.proofs.tellings.told_all.Goals as goal

pub told_at-requires : goal.told_at-requires
told_at-requires c = c.requires (slice_index_or c.args.ends.now c.loop-index.index 0)
    (stands_there c.args.ends.now c.loop-index.index (slice_index_or c.args.ends.now c.loop-index.index 0)
    (slice_get-get_or c.args.ends.now c.loop-index.index 0 (omega arith)))

pub loop-index-init : goal.loop-index-init
loop-index-init c = subst (λ told. SaidBelow c.args.calls.now c.args.seats.now c.args.explored.now.met c.args.ends.now 0 told) (sym c.new-all.ensures.items)
    (nothing_said c.args.calls.now c.args.seats.now c.args.explored.now.met c.args.ends.now)

pub loop-index-preserved : goal.loop-index-preserved
loop-index-preserved c = one_more_said c.args.calls.now c.args.seats.now c.args.explored.now.met c.args.ends.now c.loop-index.index
    (slice_index_or c.args.ends.now c.loop-index.index 0)
    c.loop-index.all.items c.add_told.new.all.items c.in_ok-told.told (slice_get-get_or c.args.ends.now c.loop-index.index 0 (omega arith))
    c.loop-index.invariant c.in_ok-told.ensures c.in_ok-add_told.ensures

pub returns : goal.returns
returns c = all_said c.args.calls.now c.args.seats.now c.args.explored.now.met c.args.ends.now c.loop-index.index c.loop-index.all.items
    (omega arith) c.loop-index.invariant
