use Rattle.std.proofs.Common.{[], ◌∷◌, sym, subst}
use Rattle.std.proofs.lemmas.Result.{IfOk-weaker}
use Rattle.command_line.specs.CommandLine.{audit_app}
use Rattle.command_line.specs.Proved.Parsing.{HaveRules}
use Rattle.command_line.proofs.Parses.{all_added_app, all_added_local}
use Rattle.command_line.proofs.job.audit_command.Goals as goal

pub returns-clause-app : goal.returns-clause-app
returns-clause-app c =
    let all : HaveRules (c.flag_arg.result ∷ c.file_arg.result ∷ []) audit_app.top.rules =
    (c.flag_arg.ensures.rule, c.flag_arg.ensures.local, (c.file_arg.ensures.rule, c.file_arg.ensures.local, tt)) in
    let have = subst (λ l. HaveRules l audit_app.top.rules) (sym c.in_ok-args.ensures) all in
    IfOk-weaker c.args-2.result _ _ (λ r added. all_added_app _ _ _ r _ have added c.described_command.ensures.app) c.args-2.ensures

pub returns-clause-local : goal.returns-clause-local
returns-clause-local c =
    let all : HaveRules (c.flag_arg.result ∷ c.file_arg.result ∷ []) audit_app.top.rules =
    (c.flag_arg.ensures.rule, c.flag_arg.ensures.local, (c.file_arg.ensures.rule, c.file_arg.ensures.local, tt)) in
    let have = subst (λ l. HaveRules l audit_app.top.rules) (sym c.in_ok-args.ensures) all in
    IfOk-weaker c.args-2.result _ _ (λ r added. all_added_local _ _ _ r have added c.described_command.ensures.local) c.args-2.ensures
