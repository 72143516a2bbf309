-- The bytes so far, and what is left.
use Rattle.std.proofs.Common.{◌≡◌, ◌++◌, true, length}
use Rattle.text_forms.specs.Scripts.{unhashed}
use Rattle.text_forms.proofs.scripts.put_unhashed.Given as goal

-- fewer bytes are left
abbrev pub decreases-loop-byte : goal.decreases-loop-byte
decreases-loop-byte l = length l.left

abbrev pub invariant-loop-byte : goal.invariant-loop-byte
invariant-loop-byte l = l.out.items ++ unhashed l.begins l.left ≡ l.fn.out.items ++ unhashed true l.line
