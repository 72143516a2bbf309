use Rattle.std.proofs.Common.{[], ◌∷◌, sym, subst}
use Rattle.std.proofs.lemmas.Result.{IfOk-weaker}
use Rattle.command_line.specs.CommandLine.{migrate_app}
use Rattle.command_line.specs.Proved.Parsing.{HaveRules}
use Rattle.command_line.proofs.Parses.{all_added_app, all_added_local}
use Rattle.command_line.proofs.job.migrate_command.Goals as goal

pub returns-clause-app : goal.returns-clause-app
returns-clause-app c =
    let all : HaveRules (c.word_arg-from.result ∷ c.word_arg-to.result ∷ []) migrate_app.top.rules =
    (c.word_arg-from.ensures.rule, c.word_arg-from.ensures.local, (c.word_arg-to.ensures.rule, c.word_arg-to.ensures.local, tt)) in
    let have = subst (λ l. HaveRules l migrate_app.top.rules) (sym c.in_ok-args.ensures) all in
    IfOk-weaker c.args-2.result _ _ (λ r added. all_added_app _ _ _ r _ have added c.described_command.ensures.app) c.args-2.ensures

pub returns-clause-local : goal.returns-clause-local
returns-clause-local c =
    let all : HaveRules (c.word_arg-from.result ∷ c.word_arg-to.result ∷ []) migrate_app.top.rules =
    (c.word_arg-from.ensures.rule, c.word_arg-from.ensures.local, (c.word_arg-to.ensures.rule, c.word_arg-to.ensures.local, tt)) in
    let have = subst (λ l. HaveRules l migrate_app.top.rules) (sym c.in_ok-args.ensures) all in
    IfOk-weaker c.args-2.result _ _ (λ r added. all_added_local _ _ _ r have added c.described_command.ensures.local) c.args-2.ensures
