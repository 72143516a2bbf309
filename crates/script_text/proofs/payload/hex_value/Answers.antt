use Rattle.std.proofs.Common.{ℕ, List, sym, ap, ◌∙◌, arith}
use Rattle.std.specs.Option.{option_map}
use Rattle.script_text.proofs.Names.{half}
use Rattle.script_text.proofs.payload.hex_value.Goals as goal

pub new-requires : goal.new-requires
new-requires c =
    let digits = sym c.in_ok-paired_bytes.ensures ∙ ap (option_map (λ (bytes : List ℕ × ℕ). bytes.0)) c.in-Some.is in
    (omega arith, omega (arith, half c.args.digits.now c.in-Some.bytes.0 digits))
