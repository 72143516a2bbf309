use Rattle.std.proofs.Common.{◌≡◌, ◌++◌, length}
use Rattle.std.specs.List.{flat_map}
use Rattle.text_forms.specs.Scripts.{inside}
use Rattle.text_forms.proofs.scripts.strings.put_inside.Given as goal
use Rattle.script_text.specs.Lines.{hex_pair}

abbrev pub invariant-loop-byte : goal.invariant-loop-byte
invariant-loop-byte l = l.out.items ++ flat_map hex_pair (inside l.left).0 ≡ l.fn.out.items ++ flat_map hex_pair (inside l.string).0

abbrev pub decreases-loop-byte : goal.decreases-loop-byte
decreases-loop-byte l = length l.left
