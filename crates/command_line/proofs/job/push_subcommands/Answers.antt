use Rattle.std.proofs.Common.{subst, sym, [], ◌∷◌}
use Rattle.std.proofs.lemmas.Result.{IfOk-weaker}
use Rattle.command_line.specs.CommandLine.{audit_app, migrate_app, outcomes_app, replay_app, serve_app, show_app}
use Rattle.command_line.specs.Proved.Parsing.{HaveApps}
use Rattle.command_line.proofs.Parses.{have_made}
use Rattle.command_line.proofs.job.push_subcommands.Goals as goal

pub returns : goal.returns
returns c =
    let none = subst (λ l. HaveApps l []) (sym c.requires) tt in
    let first = have_made _ _ _ [] replay_app c.in_ok-push_made.ensures c.replay_command.ensures.app c.replay_command.ensures.local none in
    let second = have_made _ _ _ (replay_app ∷ []) serve_app c.in_ok-push_made-2.ensures c.serve_command.ensures.app c.serve_command.ensures.local first in
    let third = have_made _ _ _ (replay_app ∷ serve_app ∷ []) audit_app c.in_ok-push_made-3.ensures c.audit_command.ensures.app c.audit_command.ensures.local
    second in
    let fourth = have_made _ _ _ (replay_app ∷ serve_app ∷ audit_app ∷ []) show_app c.in_ok-push_made-4.ensures c.show_command.ensures.app
    c.show_command.ensures.local third in
    let fifth =
    have_made _ _ _ (replay_app ∷ serve_app ∷ audit_app ∷ show_app ∷ []) migrate_app c.in_ok-push_made-5.ensures c.migrate_command.ensures.app
    c.migrate_command.ensures.local fourth in
    IfOk-weaker c.push_made-6.result _ _
    (λ _ pushed. have_made _ _ _ (replay_app ∷ serve_app ∷ audit_app ∷ show_app ∷ migrate_app ∷ []) outcomes_app pushed c.outcomes_command.ensures.app
    c.outcomes_command.ensures.local fifth)
    c.push_made-6.ensures
