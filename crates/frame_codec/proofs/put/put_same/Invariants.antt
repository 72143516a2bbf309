use Rattle.std.proofs.Common.{◌≡◌, ◌++◌, replicate}
use Rattle.frame_codec.proofs.put.put_same.Given as goal

abbrev pub invariant-loop-written : goal.invariant-loop-written
invariant-loop-written l = l.out.items ≡ l.fn.out.items ++ replicate l._written l.byte
