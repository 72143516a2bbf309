use Rattle.std.proofs.Common.{sym, ap, ◌∙◌}
use Rattle.script_text.specs.ReadingCalls.{BadColumn}
use Rattle.script_text.proofs.WordLaws.{done, ok_is}
use Rattle.script_text.proofs.CallLaws.{act_takes, act_again, fails_on_none}
use Rattle.script_text.proofs.reading.read_act.Goals as goal

pub returns-in-Ok-clause-found : goal.returns-in-Ok-clause-found
returns-in-Ok-clause-found c = act_takes c.args.line.now c.in-Ok.act c.in-Ok.ensures

pub returns-in-Ok-clause-only : goal.returns-in-Ok-clause-only
returns-in-Ok-clause-only c = λ act spelled. ap (done BadColumn) (ok_is act c.in-Ok.act (sym (act_again act c.args.line.now spelled) ∙ c.in-Ok.ensures))

pub returns-in-Err-At-clause-only : goal.returns-in-Err-At-clause-only
returns-in-Err-At-clause-only c = λ act spelled. absurd
    (fails_on_none c.args.line.now (record { remaining = c.in-Err-At.remaining; expected = c.in-Err-At.expected }) act
    (rw c.in-Err-At.field-0-is at c.in-Err-At.ensures) spelled)
