use Rattle.std.proofs.Common.{ℕ, List, ap, length, sym, ◌∙◌, arith}
use Rattle.text_forms.proofs.ScriptStrings.{paired_is}
use Rattle.text_forms.proofs.scripts.words.skip_paired.Goals as goal

pub loop-rest-preserved : goal.loop-rest-preserved
loop-rest-preserved c =
    let e = paired_is c.loop-rest.left.now (c.in-Some.field-0-0, c.in-Some.rest.now) (sym c.in-Some.ensures.value) in
    record {
      count = omega (arith, ap (λ (parts : List ℕ × List ℕ). length parts.0) e, c.loop-rest.invariant.count);
      left = sym (ap (λ (parts : List ℕ × List ℕ). parts.1) e) ∙ c.loop-rest.invariant.left;
      within = omega (arith, c.loop-rest.invariant.within, c.in-Some.ensures.shorter);
    }
