use Rattle.std.proofs.Common.{[], ◌∷◌, sym, subst}
use Rattle.std.proofs.lemmas.Result.{IfOk-weaker}
use Rattle.command_line.specs.CommandLine.{outcomes_app}
use Rattle.command_line.specs.Proved.Parsing.{HaveRules}
use Rattle.command_line.proofs.job.outcomes_args.Goals as goal

pub returns : goal.returns
returns c =
    let states = c.states_arg in
    let capacity = c.capacity_arg in
    let witness = c.witness_arg in
    let acts = c.flag_arg in
    let all : HaveRules (states.result ∷ capacity.result ∷ witness.result ∷ acts.result ∷ []) outcomes_app.top.rules = (
      states.ensures.rule,
      states.ensures.local,
      (
        capacity.ensures.rule,
        capacity.ensures.local,
        (witness.ensures.rule, witness.ensures.local, (acts.ensures.rule, acts.ensures.local, tt)),
      ),
    ) in
    IfOk-weaker c.list_of.result _ _ (λ args is. subst (λ l. HaveRules l outcomes_app.top.rules) (sym is) all) c.list_of.ensures
