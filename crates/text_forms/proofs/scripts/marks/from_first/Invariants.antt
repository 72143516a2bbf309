use Rattle.std.proofs.Common.{◌≡◌, ◌≤◌, true, length}
use Rattle.text_forms.specs.Scripts.{from_first}
use Rattle.text_forms.proofs.scripts.marks.from_first.Given as goal

abbrev pub invariant-loop-first : goal.invariant-loop-first
invariant-loop-first l = (from_first l.what l.begins l.left ≡ from_first l.what true l.bytes) × (length l.left ≤ length l.bytes)

abbrev pub decreases-loop-first : goal.decreases-loop-first
decreases-loop-first l = length l.left
