use Rattle.std.proofs.Common.{ap, length, arith}
use Rattle.text_forms.proofs.ScriptColumns.{at_string, word_length}
use Rattle.text_forms.proofs.scripts.line_column.Goals as goal

pub returns-then-past_front-word : goal.returns-then-past_front-word
returns-then-past_front-word c =
    let word = word_length c.in-Some.string.now in
    let end = ap length c.skip_inside-count.ensures.left in
    at_string c.args.line.now c.in-Some.string.now c.args.column _ c.in-Some.ensures.value
    (λ a. omega (arith, c.in-Some-checked_sub.ensures))
    (λ a b. omega (arith, c.in-Some-checked_sub.ensures))
    (λ a b. omega (arith, c.in-Some-checked_sub.ensures))
    (λ a. omega (arith, c.in-Some-checked_sub.ensures))

pub returns-then-past_word-after_string : goal.returns-then-past_word-after_string
returns-then-past_word-after_string c =
    let word = word_length c.in-Some.string.now in
    let end = ap length c.skip_inside-count.ensures.left in
    let others = ap length c.after_string.ensures in
    at_string c.args.line.now c.in-Some.string.now c.args.column _ c.in-Some.ensures.value
    (λ a. omega (arith, c.in-Some-checked_sub.ensures))
    (λ a b. omega (arith, c.in-Some-checked_sub.ensures))
    (λ a b. omega (arith, c.in-Some-checked_sub.ensures))
    (λ a. omega (arith, c.in-Some-checked_sub.ensures))

pub returns : goal.returns
returns c =
    let word = word_length c.in-Some.string.now in
    let end = ap length c.skip_inside-count.ensures.left in
    let others = ap length c.after_string.ensures in
    at_string c.args.line.now c.in-Some.string.now c.args.column _ c.in-Some.ensures.value
    (λ a. omega (arith, c.in-Some-checked_sub.ensures))
    (λ a b. omega (arith, c.in-Some-checked_sub.ensures))
    (λ a b. omega (arith, c.in-Some-checked_sub.ensures))
    (λ a. omega (arith, c.in-Some-checked_sub.ensures))
