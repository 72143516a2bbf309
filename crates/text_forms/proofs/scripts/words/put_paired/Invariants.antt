use Rattle.std.proofs.Common.{◌≡◌, ◌++◌, length}
use Rattle.std.specs.List.{flat_map}
use Rattle.text_forms.specs.Scripts.{spelled, paired}
use Rattle.text_forms.proofs.scripts.words.put_paired.Given as goal

abbrev pub invariant-loop-byte : goal.invariant-loop-byte
invariant-loop-byte l = record {
  text : l.out.items ++ flat_map spelled (paired l.left).0 ≡ l.fn.out.items ++ flat_map spelled (paired l.digits).0;
  left : (paired l.left).1 ≡ (paired l.digits).1;
}

abbrev pub decreases-loop-byte : goal.decreases-loop-byte
decreases-loop-byte l = length l.left
