use Rattle.std.proofs.Common.{◌≡◌, ◌≤◌, ◌+◌, length}
use Rattle.script_text.specs.ReadingNames.{decoded}
use Rattle.script_text.proofs.Names.{joined}
use Rattle.script_text.proofs.name.decoded_bytes.Given as goal

abbrev pub decreases-loop-rest : goal.decreases-loop-rest
decreases-loop-rest l = length l.rest

abbrev pub invariant-loop-rest : goal.invariant-loop-rest
invariant-loop-rest l = record {
  so_far : joined l.bytes.0 (decoded l.rest) ≡ decoded l.word;
  room : length l.bytes.0 + length l.rest ≤ l.bytes.1;
}
