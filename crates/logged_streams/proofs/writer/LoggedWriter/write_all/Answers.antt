use Rattle.std.proofs.Common.{◌∙◌}
use Rattle.logged_streams.proofs.WriteLemmas.{wrote_some, wrote_well}
use Rattle.logged_streams.proofs.writer.LoggedWriter.write_all.Goals as goal

pub loop-written-preserved : goal.loop-written-preserved
loop-written-preserved g c = record {
  front = wrote_some _ _ _ _ _ _ _ c.loop-written.invariant.front c.split_at.ensures.back c.in-Ok.ensures.ok;
  well = wrote_well _ _ _ _ _ c.loop-written.invariant.well c.in-Ok.ensures.sound c.in-Ok.ensures.few c.in-Ok.ensures.ok.some;
  leave = c.in-Ok.ensures.leave ∙ c.loop-written.invariant.leave;
}
