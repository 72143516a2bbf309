use Rattle.std.proofs.Common.{◌∙◌, ap}
use Rattle.race_outcomes.specs.Witnesses.{records_along}
use Rattle.race_outcomes.proofs.WitnessLemmas.{witness_of, witness_after}
use Rattle.race_outcomes.proofs.witness.records_along.Goals as goal

pub returns-clause-witness : goal.returns-clause-witness
returns-clause-witness c = witness_of c.args.race.now.limits.bounds c.args.race.now.lanes c.args.world.now c.args.order.now c.in_ok-records.records
    (c.in_ok-records.ensures ∙ ap (λ start. records_along c.args.race.now.limits.bounds c.args.race.now.lanes start c.args.order.now) c.in_ok-start.ensures)

pub returns-clause-goes_on : goal.returns-clause-goes_on
returns-clause-goes_on c = witness_after c.args.race.now.limits.bounds c.args.race.now.lanes c.args.world.now c.args.order.now c.in_ok-records.records
    (c.in_ok-records.ensures ∙ ap (λ start. records_along c.args.race.now.limits.bounds c.args.race.now.lanes start c.args.order.now) c.in_ok-start.ensures)
