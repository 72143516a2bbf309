use Rattle.std.proofs.Common.{◌≡◌, ◌+◌, ◌<◌, ◌^◌, ◌++◌, ◌∙◌, length, ap, sym, length-append, arith}
use Rattle.call_types.specs.Stored.{span_bytes}
use Rattle.posix_model.specs.Runs.{run_bytes, all_bytes}
use Rattle.posix_model.proofs.RunLaws.{one_run_more, none_added}
use Rattle.posix_model.proofs.runs.Runs.append.Goals as goal

pub returns-then-count-eq0 : goal.returns-then-count-eq0
returns-then-count-eq0 c = sym (none_added c.args.self.now (span_bytes c.args.new) (omega arith))

pub invariant_of-self-2 : goal.invariant_of-self-2
invariant_of-self-2 c =
    let runs = c.self.inside.runs.items in
    let run = c.in_ok-run.run' in
    let added : all_bytes c.push.new.self.items ≡ all_bytes runs ++ run_bytes run = ap all_bytes c.in_ok-push.ensures.items ∙ one_run_more runs run in
    let long : length (all_bytes c.push.new.self.items) ≡ length (all_bytes runs) + length (run_bytes run) = ap length added ∙
    length-append (all_bytes runs) (run_bytes run) in
    let same : length (run_bytes run) ≡ length (span_bytes c.args.new) = ap length c.in_ok-run.ensures in
    let fits : length (all_bytes runs) + length (span_bytes c.args.new) < 2 ^ 63 = rw (← c.self.view_is) at c.requires in
    (omega (arith, long, same, c.self.invariant.0), omega (arith, fits, c.self.invariant.0))

pub returns : goal.returns
returns c =
    let runs = c.self.inside.runs.items in
    rw (← c.self.view_is) (ap all_bytes c.in_ok-push.ensures.items ∙ (one_run_more runs c.in_ok-run.run' ∙ ap (λ b. all_bytes runs ++ b) c.in_ok-run.ensures))
