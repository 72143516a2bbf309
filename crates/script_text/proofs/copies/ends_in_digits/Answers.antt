use Rattle.std.proofs.Common.{sym, ◌∙◌}
use Rattle.std.proofs.lemmas.Bool.{not-true}
use Rattle.script_text.proofs.AsWritten.{many_end, few_end}
use Rattle.script_text.proofs.copies.ends_in_digits.Goals as goal

pub returns-then-bytes-gt-WRITTEN_OUT_MAX : goal.returns-then-bytes-gt-WRITTEN_OUT_MAX
returns-then-bytes-gt-WRITTEN_OUT_MAX c = λ yes. many_end c.args.line.now c.args.bytes.now c.if-bytes-gt-WRITTEN_OUT_MAX.true
    (c.is_written_by_digits.ensures yes)

pub returns-else-bytes-gt-WRITTEN_OUT_MAX : goal.returns-else-bytes-gt-WRITTEN_OUT_MAX
returns-else-bytes-gt-WRITTEN_OUT_MAX c = λ yes.
    few_end c.args.line.now c.args.bytes.now c.if-bytes-gt-WRITTEN_OUT_MAX.false (sym c.ends_in_small_count.ensures ∙ not-true _ yes)
