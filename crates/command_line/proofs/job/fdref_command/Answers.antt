use Rattle.std.proofs.lemmas.Result.{IfOk-weaker}
use Rattle.command_line.proofs.Parses.{all_subcommands_app, all_subcommands_local}
use Rattle.command_line.proofs.job.fdref_command.Goals as goal

pub returns-clause-app : goal.returns-clause-app
returns-clause-app c =
    IfOk-weaker c.subcommands.result _ _ (λ r added. all_subcommands_app _ _ _ r _ c.in_ok-push_subcommands.ensures added c.bare_command.ensures.app)
    c.subcommands.ensures

pub returns-clause-local : goal.returns-clause-local
returns-clause-local c =
    IfOk-weaker c.subcommands.result _ _ (λ r added. all_subcommands_local _ _ _ r c.in_ok-push_subcommands.ensures added c.bare_command.ensures.local)
    c.subcommands.ensures
