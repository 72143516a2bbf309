use Rattle.std.proofs.Common.{◌≡◌, ◌-◌, ◌≤◌, ◌++◌, length, replicate}
use Rattle.pipe_table.proofs.ring.PipeRing.put_same.Given as goal

abbrev pub invariant-loop-left : goal.invariant-loop-left
invariant-loop-left l = record {
  bytes : l.self.bytes ++ replicate l.left l.byte ≡ l.fn.self.bytes ++ replicate l.fn.count l.fn.byte;
  capacity : l.self.capacity ≡ l.fn.self.capacity;
  block : l.self.block ≡ l.fn.self.block;
  places : l.left ≤ l.self.block - length l.self.bytes;
}

abbrev pub decreases-loop-left : goal.decreases-loop-left
decreases-loop-left l = l.left
