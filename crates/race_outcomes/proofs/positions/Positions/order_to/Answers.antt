use Rattle.std.proofs.Common.{rules, ◌≡◌, ◌∙◌, ◌∷◌, [], ap, sym, subst, reverse}
use Rattle.std.proofs.lemmas.List.{reverse-append}
use Rattle.race_outcomes.specs.Moves.{move}
use Rattle.race_outcomes.specs.Search.{LeadsBetween, LeadsTo}
use Rattle.race_outcomes.specs.Proved.Search.{GoesBack}
use Rattle.race_outcomes.proofs.SearchLemmas.{goes_back, from_first}
use Rattle.race_outcomes.proofs.positions.Positions.order_to.Goals as goal

pub loop-by-smaller : goal.loop-by-smaller
loop-by-smaller c =
    let back : GoesBack (move c.args._race.now.limits.bounds c.args._race.now.lanes) c.args.self.now.met c.loop-by.at c.in-Some.by =
    goes_back (move c.args._race.now.limits.bounds c.args._race.now.lanes) c.args.self.now.met c.loop-by.at c.in-Some.by c.met_by.result c.requires.traced
    c.loop-by.invariant.0 c.met_by.ensures c.in-Some.is in
    back.before

pub loop-by-preserved : goal.loop-by-preserved
loop-by-preserved c =
    let back : GoesBack (move c.args._race.now.limits.bounds c.args._race.now.lanes) c.args.self.now.met c.loop-by.at c.in-Some.by =
    goes_back (move c.args._race.now.limits.bounds c.args._race.now.lanes) c.args.self.now.met c.loop-by.at c.in-Some.by c.met_by.result c.requires.traced
    c.loop-by.invariant.0 c.met_by.ensures c.in-Some.is in
    let longer : c.in-Some.by.lane ∷ reverse c.loop-by.order ≡ reverse c.push.new.self = sym (reverse-append c.loop-by.order (c.in-Some.by.lane ∷ [])) ∙
    ap reverse (sym c.in_ok-push.ensures.ok) in (
      back.within,
      subst (λ order. LeadsBetween (move c.args._race.now.limits.bounds c.args._race.now.lanes) c.args.self.now.met c.in-Some.by.from c.args.place
          order) longer (back.leads c.args.place (reverse c.loop-by.order) c.loop-by.invariant.1),
    )

pub returns : goal.returns
returns c =
    subst (λ order. LeadsTo (move c.args._race.now.limits.bounds c.args._race.now.lanes) c.args.self.now.met c.args.place order) (sym c.reverse.ensures)
    (from_first (move c.args._race.now.limits.bounds c.args._race.now.lanes) c.args.self.now.met c.loop-by.at c.args.place
    (reverse c.loop-by.order) c.met_by.result c.requires.traced c.loop-by.invariant.0 c.met_by.ensures (search rules) c.loop-by.invariant.1)
