use Rattle.std.proofs.Common.{◌+◌, ap, sym, ◌∙◌, arith}
use Rattle.std.proofs.lemmas.Result.{err_from_is_err_and}
use Rattle.std.specs.Option.{option_copied}
use Rattle.script_text.specs.ReadingScripts.{left_size}
use Rattle.script_text.proofs.Scripts.{size_falls}
use Rattle.script_text.proofs.RaceLaws.{next_acts, acts_fail, race_here, race_fails}
use Rattle.script_text.proofs.races.read_lines.Goals as goal

pub returns-in_err-calls : goal.returns-in_err-calls
returns-in_err-calls c =
    let so_far = rw c.in-Some.is at c.loop-left.invariant.same in
    let p = err_from_is_err_and c.from_residual.result c.from_residual.ensures.1 in
    rw (p.1, p.2, ← so_far) (race_fails c.in_err-calls.field-0.0 c.loop-left.setup (c.loop-left.number + 1) c.in-Some.bytes.now c.cut_at.result.0.now
    (option_copied c.cut_at.result.1) c.cut_at.ensures.value (sym c.if-is_race.ensures) c.in_err-calls.ensures)

pub returns-then-is_race : goal.returns-then-is_race
returns-then-is_race c =
    let so_far = rw c.in-Some.is at c.loop-left.invariant.same in
    sym so_far ∙ race_here c.loop-left.setup c.in_ok-calls.calls (c.loop-left.number + 1) c.in-Some.bytes.now c.cut_at.result.0.now
    (option_copied c.cut_at.result.1) c.cut_at.ensures.value (sym c.if-is_race.ensures) c.in_ok-calls.ensures

pub loop-left-preserved : goal.loop-left-preserved
loop-left-preserved c =
    let so_far = rw c.in-Some.is at c.loop-left.invariant.same in
    record {
      few = omega (
        arith,
        c.loop-left.invariant.few,
        ap (λ o. left_size (option_copied o)) c.in-Some.is,
        size_falls c.cut_at.result.1 _ c.cut_at.ensures.shorter,
      );
      same = sym (next_acts c.loop-left.setup c.push_act.new.setup (c.loop-left.number + 1) c.in-Some.bytes.now c.cut_at.result.0.now
          (option_copied c.cut_at.result.1) c.cut_at.ensures.value (sym c.if-is_race.ensures) c.in_ok-push_act.ensures) ∙ so_far;
    }

pub returns-in_err-push_act : goal.returns-in_err-push_act
returns-in_err-push_act c =
    let so_far = rw c.in-Some.is at c.loop-left.invariant.same in
    let p = err_from_is_err_and c.from_residual-in_err-push_act.result c.from_residual-in_err-push_act.ensures.1 in
    rw (p.1, p.2, ← so_far) (acts_fail c.in_err-push_act.field-0.0 c.loop-left.setup (c.loop-left.number + 1) c.in-Some.bytes.now c.cut_at.result.0.now
    (option_copied c.cut_at.result.1) c.cut_at.ensures.value (sym c.if-is_race.ensures) c.in_err-push_act.ensures)
