use Rattle.std.proofs.Common.{◌≡◌, ◌++◌, replicate}
use Rattle.hex.specs.Hex.{encode_lower}
use Rattle.text_forms.proofs.json.values.put_same.Given as goal

abbrev pub invariant-loop-time : goal.invariant-loop-time
invariant-loop-time l = l.out.items ≡ l.fn.out.items ++ encode_lower (replicate l._time l.byte)
