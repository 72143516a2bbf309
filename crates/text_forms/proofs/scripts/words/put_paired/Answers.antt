use Rattle.std.proofs.Common.{ℕ, List, ap, sym, ◌∙◌}
use Rattle.text_forms.specs.Scripts.{spelled}
use Rattle.text_forms.proofs.ScriptStrings.{paired_is, byte_on}
use Rattle.text_forms.proofs.scripts.words.put_paired.Goals as goal

pub loop-byte-preserved : goal.loop-byte-preserved
loop-byte-preserved c =
    let e = paired_is c.loop-byte.left.now (c.in-Some.byte, c.in-Some.rest.now) (sym c.in-Some.ensures.value) in
    record {
      text = byte_on spelled c.loop-byte.out.items c.put_spelled.new.out.items _ _ _ c.in-Some.byte
          (ap (λ (parts : List ℕ × List ℕ). parts.0) e) c.in_ok-put_spelled.ensures c.loop-byte.invariant.text;
      left = sym (ap (λ (parts : List ℕ × List ℕ). parts.1) e) ∙ c.loop-byte.invariant.left;
    }
