-- What is left, and how many lines are before that line.
use Rattle.std.proofs.Common.{◌≡◌, length}
use Rattle.job_core.specs.Replay.{from_line}
use Rattle.job_core.proofs.replay.from_line.Given as goal

-- fewer bytes are left
abbrev pub decreases-loop-byte : goal.decreases-loop-byte
decreases-loop-byte l = length l.rest

abbrev pub invariant-loop-byte : goal.invariant-loop-byte
invariant-loop-byte l = from_line l.rest l.left ≡ from_line l.text l.before
