use Rattle.std.proofs.Common.{◌≡◌, ◌≤◌, length}
use Rattle.text_forms.specs.Scripts.{after_word}
use Rattle.text_forms.proofs.scripts.marks.after_word.Given as goal

abbrev pub invariant-loop-first : goal.invariant-loop-first
invariant-loop-first l = (after_word l.left ≡ after_word l.bytes) × (length l.left ≤ length l.bytes)

abbrev pub decreases-loop-first : goal.decreases-loop-first
decreases-loop-first l = length l.left
