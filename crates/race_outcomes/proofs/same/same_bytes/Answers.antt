use Rattle.std.proofs.Common.{rules}
use Rattle.race_outcomes.proofs.SameLemmas.{same_further}
use Rattle.race_outcomes.proofs.same.same_bytes.Goals as goal

pub loop-piece-preserved : goal.loop-piece-preserved
loop-piece-preserved c = same_further c.loop-piece.piece c.args.this.now c.args.other.now c.loop-piece.invariant (search rules)
