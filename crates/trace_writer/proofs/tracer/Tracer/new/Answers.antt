use Rattle.trace_writer.proofs.TraceLemmas.{writes_first}
use Rattle.trace_writer.proofs.tracer.Tracer.new.Goals as goal

pub invariant_of-result : goal.invariant_of-result
invariant_of-result g c =
    rw (c.of.ensures, c.of-begun.ensures, c.new.ensures.items) (writes_first c.of-told.result (g.S.Sink.contents c.args.sink)
    (g.S.Sink.failures c.args.sink) c.first_unsent-unsent.result.0.items c.first_unsent-unsent.result.1
    (g.S.Sink.is_sound c.args.sink) c.first_unsent-unsent.ensures c.requires.few c.requires.sound (c.headers_are_read.ensures.long c.of-told.result))
