use Rattle.std.proofs.Common.{◌≡◌, ◌≤◌, ◌+◌, length}
use Rattle.text_forms.specs.Scripts.{paired}
use Rattle.text_forms.proofs.scripts.words.skip_paired.Given as goal

abbrev pub invariant-loop-rest : goal.invariant-loop-rest
invariant-loop-rest l = record {
  count : l.count + length (paired l.left).0 ≡ length (paired l.digits).0;
  left : (paired l.left).1 ≡ (paired l.digits).1;
  within : l.count + length l.left ≤ length l.digits;
}

abbrev pub decreases-loop-rest : goal.decreases-loop-rest
decreases-loop-rest l = length l.left
