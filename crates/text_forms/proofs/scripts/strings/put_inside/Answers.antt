use Rattle.std.proofs.Common.{ℕ, List, ap, sym}
use Rattle.text_forms.proofs.ScriptStrings.{inside_is, byte_on}
use Rattle.text_forms.proofs.scripts.strings.put_inside.Goals as goal
use Rattle.script_text.specs.Lines.{hex_pair}

pub loop-byte-preserved : goal.loop-byte-preserved
loop-byte-preserved c =
    let e = inside_is c.loop-byte.left.now (c.in-Some.byte, c.in-Some.rest.now) (sym c.in-Some.ensures.value) in
    byte_on hex_pair c.loop-byte.out.items c.put_hex.new.out.items _ _ _ c.in-Some.byte
    (ap (λ (parts : List ℕ × List ℕ). parts.0) e) c.in_ok-put_hex.ensures c.loop-byte.invariant
