use Rattle.std.proofs.Common.{◌≡◌, ◌≤◌, ◌+◌, ◌/◌, length}
use Rattle.script_text.specs.ReadingData.{hex_bytes}
use Rattle.script_text.proofs.Names.{joined}
use Rattle.script_text.proofs.payload.paired_bytes.Given as goal

abbrev pub decreases-loop-rest : goal.decreases-loop-rest
decreases-loop-rest l = length l.rest

abbrev pub invariant-loop-rest : goal.invariant-loop-rest
invariant-loop-rest l = record {
  so_far : joined l.bytes.0 (hex_bytes l.rest) ≡ hex_bytes l.digits;
  room : length l.bytes.0 + length l.rest / 2 ≤ l.bytes.1;
}
