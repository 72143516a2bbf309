use Rattle.std.proofs.Common.{◌++◌, ◌∙◌, map, refl}
use Rattle.std.specs.Arc.{arc_value}
use Rattle.run_core.specs.Run.{held_in}
use Rattle.run_core.proofs.ReceiptLemmas.{all_agree, seats_alone, told_place}
use Rattle.run_core.proofs.closing.compare_seats.Goals as goal

pub returns-clause-all : goal.returns-clause-all
returns-clause-all g c =
    let alone = seats_alone c.args.seats.now c.as_slice.result.now c.args.seats.now refl (c.as_slice.ensures.value ∙ c.new-others.ensures.items) in
    let held = map held_in c.args.seats.now ++ map held_in c.as_slice.result.now in
    λ none. all_agree c.args.book.now.history held _ (map arc_value c.args.received.now) c.in_ok-least.least alone none c.in_ok-least.ensures.agree

pub returns-clause-least : goal.returns-clause-least
returns-clause-least g c =
    let alone = seats_alone c.args.seats.now c.as_slice.result.now c.args.seats.now refl (c.as_slice.ensures.value ∙ c.new-others.ensures.items) in
    let held = map held_in c.args.seats.now ++ map held_in c.as_slice.result.now in
    λ place is. told_place c.args.book.now.history held _ (map arc_value c.args.received.now) c.in_ok-least.least place alone is c.in_ok-least.ensures.agree
    c.in_ok-least.ensures.broken
