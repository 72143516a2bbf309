use Rattle.std.proofs.Common.{[], ◌∷◌, sym, subst}
use Rattle.std.proofs.lemmas.Result.{IfOk-weaker}
use Rattle.command_line.specs.CommandLine.{serve_app}
use Rattle.command_line.specs.Proved.Parsing.{HaveRules}
use Rattle.command_line.proofs.job.serve_args.Goals as goal

pub returns : goal.returns
returns c =
    let socket = c.required_arg in
    let sessions = c.required_arg-2 in
    let records = c.required_arg-3 in
    let trace = c.required_arg-4 in
    let capacity = c.capacity_arg in
    let all : HaveRules (socket.result ∷ sessions.result ∷ records.result ∷ trace.result ∷ capacity.result ∷ []) serve_app.top.rules = (
      socket.ensures.rule,
      socket.ensures.local,
      (
        sessions.ensures.rule,
        sessions.ensures.local,
        (records.ensures.rule, records.ensures.local, (trace.ensures.rule, trace.ensures.local, (capacity.ensures.rule, capacity.ensures.local, tt))),
      ),
    ) in
    IfOk-weaker c.list_of.result _ _ (λ args is. subst (λ l. HaveRules l serve_app.top.rules) (sym is) all) c.list_of.ensures
