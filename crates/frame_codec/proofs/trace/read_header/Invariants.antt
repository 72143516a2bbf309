-- What is left of the text is to come next, and what was passed was there.
use Rattle.std.proofs.Common.{◌≡◌, length}
use Rattle.frame_codec.specs.Trace.{header, header_after, version_header}
use Rattle.frame_codec.proofs.trace.read_header.Given as goal

abbrev pub invariant-loop-first : goal.invariant-loop-first
invariant-loop-first l = header_after l.wanted version_header l.rest ≡ header l.fn.bytes

abbrev pub decreases-loop-first : goal.decreases-loop-first
decreases-loop-first l = length l.wanted
