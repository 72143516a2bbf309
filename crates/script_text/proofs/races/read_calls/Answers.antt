use Rattle.std.proofs.Common.{◌+◌, ap, sym, ◌∙◌, arith}
use Rattle.std.proofs.lemmas.Result.{err_from_is_err_and}
use Rattle.std.specs.Option.{option_copied}
use Rattle.script_text.specs.ReadingScripts.{left_size}
use Rattle.script_text.proofs.Scripts.{size_falls}
use Rattle.script_text.proofs.RaceLaws.{next_calls, calls_fail}
use Rattle.script_text.proofs.races.read_calls.Goals as goal

pub loop-left-preserved : goal.loop-left-preserved
loop-left-preserved c =
    let so_far = rw c.in-Some.is at c.loop-left.invariant.same in
    record {
      few = omega (
        arith,
        c.loop-left.invariant.few,
        ap (λ o. left_size (option_copied o)) c.in-Some.is,
        size_falls c.cut_at.result.1 _ c.cut_at.ensures.shorter,
      );
      same = sym (next_calls c.loop-left.calls c.push_call.new.calls (c.loop-left.number + 1) c.in-Some.bytes.now c.cut_at.result.0.now
          (option_copied c.cut_at.result.1) c.cut_at.ensures.value c.in_ok-push_call.ensures) ∙ so_far;
    }

pub returns-in_err-push_call : goal.returns-in_err-push_call
returns-in_err-push_call c =
    let so_far = rw c.in-Some.is at c.loop-left.invariant.same in
    let p = err_from_is_err_and c.from_residual.result c.from_residual.ensures.1 in
    rw (p.1, p.2, ← so_far) (calls_fail c.in_err-push_call.field-0.0 c.loop-left.calls (c.loop-left.number + 1) c.in-Some.bytes.now c.cut_at.result.0.now
    (option_copied c.cut_at.result.1) c.cut_at.ensures.value c.in_err-push_call.ensures)
