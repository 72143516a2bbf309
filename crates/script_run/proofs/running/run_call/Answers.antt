use Rattle.std.proofs.Common.{rules, ◌≡◌, None}
use Rattle.record_book.specs.Refusals.{call_refusals, first_refusal}
use Rattle.record_book.proofs.PlanLemmas.{call_is_free}
use Rattle.script_run.proofs.running.run_call.Goals as goal

pub is_planned-requires-clause-roomy : goal.is_planned-requires-clause-roomy
is_planned-requires-clause-roomy c =
    let none : first_refusal (call_refusals c.args.progress.now c.args.process c.args.call) ≡ None = search rules in
    (call_is_free c.args.progress.now c.args.process c.args.call none).roomy
