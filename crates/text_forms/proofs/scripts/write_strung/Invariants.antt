use Rattle.std.proofs.Common.{◌≡◌, ◌++◌, length}
use Rattle.text_forms.specs.Scripts.{each_line, strung_line}
use Rattle.text_forms.proofs.scripts.write_strung.Given as goal

abbrev pub invariant-loop-line : goal.invariant-loop-line
invariant-loop-line l = l.out.items ++ each_line (strung_line l.kind) l.left ≡ l.fn.out.items ++ each_line (strung_line l.kind) l.text

abbrev pub decreases-loop-line : goal.decreases-loop-line
decreases-loop-line l = length l.left
