use Rattle.std.proofs.Common.{◌∙◌, List, ap, sym, subst}
use Rattle.std.specs.List.{All}
use Rattle.std.proofs.lemmas.Result.{err_from_is_err_and}
use Rattle.posix_model.specs.declared.world.World.{World}
use Rattle.script_text.specs.declared.races.RaceCall.{RaceCall}
use Rattle.race_outcomes.specs.Moves.{move}
use Rattle.race_outcomes.specs.Outcomes.{start_of}
use Rattle.race_outcomes.specs.Search.{IsExplored}
use Rattle.race_outcomes.specs.Setups.{lanes_of}
use Rattle.race_outcomes.specs.Tellings.{AreTold, IsToldAt, texts}
use Rattle.job_core.specs.Proved.Racing.{GivesUp, IsUnsearched}
use Rattle.job_core.proofs.RaceLemmas.{too_large}
use Rattle.job_core.proofs.outcomes.searched.Goals as goal

pub returns-in_err-explored-clause-fault : goal.returns-in_err-explored-clause-fault
returns-in_err-explored-clause-fault c =
    let p = err_from_is_err_and c.from_residual-in_err-explored.result c.from_residual-in_err-explored.ensures.1 in
    let bounds = c.args.limits.bounds in
    let lanes = c.in_ok-lanes.lanes in
    rw p.1
    (subst (IsUnsearched bounds c.args.most c.args.text.now) (sym p.2)
    (too_large bounds lanes c.args.text.now c.in_ok-script.script c.in_ok-script.setup c.args.most c.in_err-explored.field-0.0 c.in_ok-script.ensures.ready
    (c.in_ok-lanes.ensures ∙ ap lanes_of c.all.ensures)
    (subst (λ (w : World). GivesUp (move bounds lanes) (start_of lanes w) c.args.most c.in_err-explored.field-0.0) c.in_ok-world.ensures
    c.in_err-explored.ensures.fault)))

pub returns-clause-search : goal.returns-clause-search
returns-clause-search c =
    let bounds = c.args.limits.bounds in
    let lanes = c.in_ok-lanes.lanes in
    let world = c.in_ok-script.setup.world in
    let all : IsExplored (move bounds lanes) (start_of lanes world) c.in_ok-explored.explored =
    subst (λ (w : World). IsExplored (move bounds lanes) (start_of lanes w) c.in_ok-explored.explored) c.in_ok-world.ensures c.in_ok-explored.ensures.all in
    record {
      is_legal = c.in_ok-script.ensures.legal;
      world_is = c.in_ok-script.ensures.world;
      lanes_are = c.in_ok-lanes.ensures ∙ ap lanes_of c.all.ensures;
      all = all;
      told = subst (λ (calls : List RaceCall). AreTold bounds calls world (texts c.in_ok-told.told.items)) c.all-2.ensures (c.in_ok-told.ensures.all world all);
      at = subst (λ (calls : List RaceCall). All (IsToldAt (move bounds lanes) c.in_ok-explored.explored.met calls) c.in_ok-told.told.items) c.all-2.ensures
          c.in_ok-told.ensures.places;
    }
