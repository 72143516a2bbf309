use Rattle.std.proofs.Common.{◌≡◌, ◌*◌, take}
use Rattle.call_types.specs.declared.limits.TheConstants.{TRANSFER_MAX}
use Rattle.race_outcomes.proofs.same.same_bytes.Given as goal

-- the bytes of the pieces before this one are the same
abbrev pub invariant-loop-piece : goal.invariant-loop-piece
invariant-loop-piece l = take (l.piece * TRANSFER_MAX) l.this ≡ take (l.piece * TRANSFER_MAX) l.other
