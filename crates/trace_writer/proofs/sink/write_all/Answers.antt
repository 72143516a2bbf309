use Rattle.std.proofs.Common.{List, ℕ, ◌∙◌, subst}
use Rattle.logged_streams.specs.Streams.{SomeWritten}
use Rattle.trace_writer.proofs.sink.write_all.Goals as goal

pub loop-written-preserved : goal.loop-written-preserved
loop-written-preserved g c = record {
  front =
      let more = subst (λ (rest : List ℕ). SomeWritten (g.S.Sink.contents c.loop-written.sink) (g.S.Sink.contents c.write.new.self) rest c.in-Ok.count)
      c.split_at.ensures.back c.in-Ok.ensures.ok in
      c.fronts_grow.ensures _ _ _ _ _ _ c.loop-written.invariant.front more;
  sound = c.in-Ok.ensures.sound.1;
  failures = c.in-Ok.ensures.sound.0 ∙ c.loop-written.invariant.failures;
}
