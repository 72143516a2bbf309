use Rattle.std.proofs.lemmas.Result.{IfOk-weaker}
use Rattle.command_line.proofs.Parses.{all_added_app, all_added_local}
use Rattle.command_line.proofs.job.serve_command.Goals as goal

pub returns-clause-app : goal.returns-clause-app
returns-clause-app c =
    IfOk-weaker c.args-2.result _ _ (λ r added. all_added_app _ _ _ r _ c.in_ok-args.ensures added c.described_command.ensures.app) c.args-2.ensures

pub returns-clause-local : goal.returns-clause-local
returns-clause-local c =
    IfOk-weaker c.args-2.result _ _ (λ r added. all_added_local _ _ _ r c.in_ok-args.ensures added c.described_command.ensures.local) c.args-2.ensures
