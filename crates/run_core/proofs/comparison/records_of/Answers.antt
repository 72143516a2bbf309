use Rattle.std.proofs.lemmas.Bool.{le-leb}
use Rattle.run_core.proofs.comparison.records_of.Goals as goal

pub returns-clause-legal : goal.returns-clause-legal
returns-clause-legal g c = record {
  is_legal = c.counts.ensures.is_legal;
  ends = c.reserve_was_kept.ensures _ _ _ (le-leb _ _ c.counts.ensures.reserve);
}
