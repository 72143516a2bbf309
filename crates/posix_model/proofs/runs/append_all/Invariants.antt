use Rattle.std.proofs.Common.{◌≡◌, ◌+◌, ◌<◌, ◌^◌, ◌++◌, length}
use Rattle.posix_model.specs.Runs.{all_bytes}
use Rattle.posix_model.proofs.runs.append_all.Given as goal

abbrev pub invariant-loop-first : goal.invariant-loop-first
invariant-loop-first l = record {
  bytes : l.bytes ++ all_bytes l.rest ≡ l.fn.bytes ++ all_bytes l.runs;
  fits : length l.bytes + length (all_bytes l.rest) < 2 ^ 63;
}

abbrev pub decreases-loop-first : goal.decreases-loop-first
decreases-loop-first l = length l.rest
