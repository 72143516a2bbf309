use Rattle.std.proofs.Common.{ℕ, ◌<◌, map}
use Rattle.std.specs.Arc.{arc_value}
use Rattle.run_core.specs.Judged.{FlagsDecideAt}
use Rattle.run_core.specs.Receipts.{IsReceivedAt}
use Rattle.run_core.proofs.comparison.first_difference.Given as goal

-- the records of all places so far were received
abbrev pub invariant-loop-place : goal.invariant-loop-place
invariant-loop-place g l = ((p : ℕ) → p < l.place → IsReceivedAt l.book.history (map arc_value l.received) p) × ((p : ℕ) → p < l.place →
    FlagsDecideAt (map arc_value l.received) p)
