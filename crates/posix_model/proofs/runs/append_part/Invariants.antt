use Rattle.std.proofs.Common.{◌≡◌, ◌+◌, ◌<◌, ◌^◌, ◌++◌, length}
use Rattle.posix_model.specs.Bytes.{bytes_at}
use Rattle.posix_model.specs.Runs.{all_bytes}
use Rattle.posix_model.proofs.runs.append_part.Given as goal

abbrev pub invariant-loop-first : goal.invariant-loop-first
invariant-loop-first l = record {
  bytes : l.file ++ bytes_at (all_bytes l.rest) l.skip l.left ≡ l.fn.file ++ bytes_at (all_bytes l.runs) l.start l.count;
  fits : length l.file + l.left < 2 ^ 63;
}

abbrev pub decreases-loop-first : goal.decreases-loop-first
decreases-loop-first l = length l.rest
