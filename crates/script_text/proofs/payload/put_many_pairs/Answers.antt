use Rattle.std.proofs.Common.{◌≡◌, ℕ, List, ◌∙◌, rules, arith}
use Rattle.std.specs.List.{flat_map}
use Rattle.std.proofs.lemmas.Slice.{overwrites}
use Rattle.script_text.specs.Lines.{hex_pair}
use Rattle.script_text.proofs.Hex.{encoded}
use Rattle.script_text.proofs.payload.put_many_pairs.Goals as goal

pub returns-clause-text : goal.returns-clause-text
returns-clause-text c =
    let text : List ℕ = c.encode_to_slice.new.output in
    let is : text ≡ flat_map hex_pair c.args.bytes.now = c.in-Ok.ensures.written ∙ encoded c.args.bytes.now (λ i. omega (arith, c.type_inv.bytes i)) in
    rw (← is) (search (rules, overwrites))
