use Rattle.std.proofs.Common.{◌∙◌, arith}
use Rattle.run_core.specs.Run.{streams}
use Rattle.run_core.proofs.JoinLemmas.{gives_next}
use Rattle.run_core.proofs.sessions.start_all.Goals as goal

-- one session more was started
pub loop-session-preserved : goal.loop-session-preserved
loop-session-preserved g c =
    let before = c.loop-session.invariant in
    let one_more = c.push_reserved.ensures.len in
    let same_room = c.push_reserved.ensures.capacity in
    record {
      failures = c.in-Ok.ensures.failures ∙ before.failures;
      accepted = let all = before.accepted in let one = c.in-Ok.ensures.accepted in omega arith;
      starts = c.in-Ok.ensures.started ∙ before.starts;
      gives = gives_next (λ thread. streams (g.S.Reader.Read.remaining thread.promise.reader.value) (g.S.Writer.Write.contents thread.promise.writer.value))
          (g.S.Source.coming c.args.source.now) (g.S.Source.coming c.loop-session.source) (g.S.Source.coming c.next_session.new.source)
          c.loop-session.running.items _ c.in-Ok.session before.gives c.in-Ok.ensures.next c.push_reserved.ensures.items;
      running = let all = before.running in omega arith;
      room = let room = before.room in omega arith;
    }
