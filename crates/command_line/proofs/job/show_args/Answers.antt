use Rattle.std.proofs.Common.{[], ◌∷◌, sym, subst}
use Rattle.std.proofs.lemmas.Result.{IfOk-weaker}
use Rattle.command_line.specs.CommandLine.{show_app}
use Rattle.command_line.specs.Proved.Parsing.{HaveRules}
use Rattle.command_line.proofs.job.show_args.Goals as goal

pub returns : goal.returns
returns c =
    let acts = c.flag_arg in
    let text = c.flag_arg-2 in
    let json = c.flag_arg-3 in
    let file = c.file_arg in
    let all : HaveRules (acts.result ∷ text.result ∷ json.result ∷ file.result ∷ []) show_app.top.rules = (
      acts.ensures.rule,
      acts.ensures.local,
      (text.ensures.rule, text.ensures.local, (json.ensures.rule, json.ensures.local, (file.ensures.rule, file.ensures.local, tt))),
    ) in
    IfOk-weaker c.list_of.result _ _ (λ args is. subst (λ l. HaveRules l show_app.top.rules) (sym is) all) c.list_of.ensures
