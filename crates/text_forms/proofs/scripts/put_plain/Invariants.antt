use Rattle.std.proofs.Common.{◌≡◌, ◌++◌, length}
use Rattle.text_forms.specs.Scripts.{each_line, plain_line}
use Rattle.text_forms.proofs.scripts.put_plain.Given as goal

abbrev pub invariant-loop-line : goal.invariant-loop-line
invariant-loop-line l = l.out.items ++ each_line plain_line l.left ≡ l.fn.out.items ++ each_line plain_line l.text

abbrev pub decreases-loop-line : goal.decreases-loop-line
decreases-loop-line l = length l.left
