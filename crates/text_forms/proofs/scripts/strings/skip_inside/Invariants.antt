use Rattle.std.proofs.Common.{◌≡◌, ◌≤◌, ◌+◌, length}
use Rattle.text_forms.specs.Scripts.{inside}
use Rattle.text_forms.proofs.scripts.strings.skip_inside.Given as goal

abbrev pub invariant-loop-rest : goal.invariant-loop-rest
invariant-loop-rest l = record {
  count : l.count + length (inside l.left).0 ≡ length (inside l.bytes).0;
  left : (inside l.left).1 ≡ (inside l.bytes).1;
  within : l.count + length l.left ≤ length l.bytes;
}

abbrev pub decreases-loop-rest : goal.decreases-loop-rest
decreases-loop-rest l = length l.left
