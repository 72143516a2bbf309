use Rattle.std.proofs.Common.{[], ◌∷◌, sym, subst}
use Rattle.std.proofs.lemmas.Result.{IfOk-weaker}
use Rattle.command_line.specs.CommandLine.{replay_app}
use Rattle.command_line.specs.Proved.Parsing.{HaveRules}
use Rattle.command_line.proofs.job.replay_args.Goals as goal

pub returns : goal.returns
returns c =
    let records = c.records_arg in
    let capacity = c.capacity_arg in
    let text = c.flag_arg in
    let all : HaveRules (records.result ∷ capacity.result ∷ text.result ∷ []) replay_app.top.rules = (
      records.ensures.rule,
      records.ensures.local,
      (capacity.ensures.rule, capacity.ensures.local, (text.ensures.rule, text.ensures.local, tt)),
    ) in
    IfOk-weaker c.list_of.result _ _ (λ args is. subst (λ l. HaveRules l replay_app.top.rules) (sym is) all) c.list_of.ensures
