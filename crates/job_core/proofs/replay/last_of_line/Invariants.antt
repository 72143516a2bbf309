-- What is left of the line, and the byte before it.
use Rattle.std.proofs.Common.{◌≡◌, length}
use Rattle.job_core.specs.Replay.{last_of_line}
use Rattle.job_core.proofs.replay.last_of_line.Given as goal

-- fewer bytes are left
abbrev pub decreases-loop-byte : goal.decreases-loop-byte
decreases-loop-byte l = length l.rest

abbrev pub invariant-loop-byte : goal.invariant-loop-byte
invariant-loop-byte l = last_of_line l.last l.rest ≡ last_of_line 0 l.text
