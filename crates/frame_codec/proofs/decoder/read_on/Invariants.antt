use Rattle.std.proofs.Common.{◌≡◌, ◌-◌, length}
use Rattle.frame_codec.proofs.Loops.{ReadSoFar}
use Rattle.frame_codec.proofs.decoder.read_on.Given as goal

abbrev pub decreases-loop-stop : goal.decreases-loop-stop
decreases-loop-stop g l = length l.bytes - l.used

abbrev pub invariant-loop-stop : goal.invariant-loop-stop
invariant-loop-stop g l = ReadSoFar g.K.FrameKind.spells g.K.FrameKind.most g.T.ValueTaker.takes l.bytes l.fn.taker l.taker l.used ×
    (l.held.items ≡ l.fn.held.items)
