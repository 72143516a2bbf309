use Rattle.std.proofs.Common.{ℕ, ◌/◌, ◌%◌, List, ◌++◌, sym, ap, ◌∙◌, arith, append_assoc, decimal}
use Rattle.script_text.specs.Proved.Digits.{four_digits}
use Rattle.script_text.proofs.ShortNumbers.{last_four_digits}
use Rattle.script_text.proofs.put.put_middle_number.Goals as goal

pub returns-clause-text : goal.returns-clause-text
returns-clause-text c =
    let n : ℕ = c.args.number in
    c.put_four_digits.ensures.text
    ∙ ap (λ (ds : List ℕ). ds ++ four_digits (n % 10000)) c.put_short_number.ensures.text
    ∙ append_assoc c.args.out.now.items (decimal (n / 10000)) (four_digits (n % 10000))
    ∙ ap (λ (ds : List ℕ). c.args.out.now.items ++ ds) (sym (last_four_digits n c.requires.size.0 (omega (arith, c.requires.size.1))))
