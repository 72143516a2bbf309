use Rattle.std.proofs.Common.{◌≡◌, ◌∙◌, ◌++◌, List, ap, sym, subst}
use Rattle.call_types.specs.declared.act.Record.{Record}
use Rattle.race_outcomes.specs.Moves.{move}
use Rattle.race_outcomes.specs.Search.{LeadsTo}
use Rattle.job_core.proofs.RaceLemmas.{witness_of}
use Rattle.job_core.proofs.outcomes.witness.Goals as goal

pub returns : goal.returns
returns c =
    let search = c.args.search.now in
    let first : c.append.new.records ≡ search.setup.records = c.in_ok-append.ensures ∙ ap (λ (x : List Record). x ++ c.all-2.result.now) c.new-records.ensures ∙
    c.all-2.ensures in
    let is : c.append-2.new.records ≡ search.setup.records ++ c.in_ok-along.along =
    c.in_ok-append-2.ensures ∙ ap (λ (x : List Record). x ++ c.all-3.result.now) first ∙ ap (λ (x : List Record). search.setup.records ++ x) c.all-3.ensures in
    witness_of search.race.limits.bounds search.race.lanes search.script search.setup c.args.told.now search.explored.met c.all.result.now c.in_ok-along.along
    c.append-2.new.records c.requires.search.lanes_are
    c.requires.search.is_legal c.requires.search.world_is c.requires.search.all.begun c.requires.at
    (subst (LeadsTo (move search.race.limits.bounds search.race.lanes) search.explored.met c.args.told.now.place) (sym c.all.ensures) c.in_ok-order.ensures)
    c.in_ok-along.ensures.exact c.in_ok-along.ensures.goes_on is
