use Rattle.std.proofs.Common.{◌+◌, ap, sym, ◌∙◌, arith}
use Rattle.std.specs.Option.{option_copied}
use Rattle.script_text.specs.ReadingCalls.{reading}
use Rattle.script_text.specs.ReadingScripts.{left_size}
use Rattle.script_text.proofs.Scripts.{empty_line, act_first, act_read, fails, size_falls}
use Rattle.script_text.proofs.script.Script.next_act.Goals as goal

pub returns-in-Err-clause-gives : goal.returns-in-Err-clause-gives
returns-in-Err-clause-gives c =
    let so_far = rw c.in-Some.is at c.loop-self.invariant.same in
    rw (← so_far) (fails c.in-Err.fault (c.loop-self.self-inside.number + 1) c.in-Some.rest.now c.cut_at.result.0.now
    (option_copied c.cut_at.result.1) c.cut_at.ensures.value (sym c.if-not-is_empty.ensures) c.in-Err.ensures)

pub returns-in-Ok-clause-gives : goal.returns-in-Ok-clause-gives
returns-in-Ok-clause-gives c =
    let so_far = rw c.in-Some.is at c.loop-self.invariant.same in
    sym so_far ∙ act_first (c.loop-self.self-inside.number + 1) c.in-Some.rest.now c.cut_at.result.0.now (option_copied c.cut_at.result.1) c.in-Ok.act
    c.cut_at.ensures.value (sym c.if-not-is_empty.ensures) c.in-Ok.ensures

pub loop-self-preserved : goal.loop-self-preserved
loop-self-preserved c =
    let so_far = rw c.in-Some.is at c.loop-self.invariant.same in
    record {
      few = omega (
        arith,
        c.loop-self.invariant.few,
        ap (λ o. left_size (option_copied o)) c.in-Some.is,
        size_falls c.cut_at.result.1 _ c.cut_at.ensures.shorter,
      );
      fewer = omega (
        arith,
        c.loop-self.invariant.fewer,
        ap (λ o. left_size (option_copied o)) c.in-Some.is,
        size_falls c.cut_at.result.1 _ c.cut_at.ensures.shorter,
      );
      same = sym (empty_line (c.loop-self.self-inside.number + 1) c.in-Some.rest.now c.cut_at.result.0.now
          (option_copied c.cut_at.result.1) c.cut_at.ensures.value (sym c.if-not-is_empty.ensures)) ∙ so_far;
    }

pub returns-in-Ok-clause-shorter : goal.returns-in-Ok-clause-shorter
returns-in-Ok-clause-shorter c = λ there.
    omega (arith, c.loop-self.invariant.fewer, ap (λ o. left_size (option_copied o)) c.in-Some.is, size_falls c.cut_at.result.1 _ c.cut_at.ensures.shorter)

pub returns-in-Ok-clause-line : goal.returns-in-Ok-clause-line
returns-in-Ok-clause-line c = act_read (c.loop-self.self-inside.number + 1) (reading c.cut_at.result.0.now) c.in-Ok.act c.in-Ok.ensures
