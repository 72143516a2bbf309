use Rattle.std.proofs.Common.{OnOk, OnErr, refl, subst}
use Rattle.session_core.specs.OutputState.{OutputState}
use Rattle.session_core.specs.Proved.Output.{SendsAll, FailsToSend}
use Rattle.session_core.proofs.OutputLemmas.{sends_all, fails_to_send}
use Rattle.session_core.proofs.output.Output.send.Goals as goal

pub returns-clause-ok : goal.returns-clause-ok
returns-clause-ok g c =
    let new : OutputState = record {
      sink = c.write_all-written.new.self;
      unsent = c.clear.new.self.items;
      sent = c.saturating_add-self-inside.result;
      answers =
          c.self.inside.answers.items;
    } in
    subst (λ (o : OutputState). OnOk c.write_all-written.result.1 (SendsAll o new)) c.self.view_is
    (sends_all c.write_all-written.result.1 _ new c.write_all-written.result.0 c.as_slice.result.now c.as_slice.ensures.value c.write_all-written.ensures.front
    c.saturating_add-self-inside.ensures refl c.clear.ensures.items c.write_all-written.ensures.whole)

pub returns-clause-err : goal.returns-clause-err
returns-clause-err g c =
    let new : OutputState = record {
      sink = c.write_all-written.new.self;
      unsent = c.clear.new.self.items;
      sent = c.saturating_add-self-inside.result;
      answers =
          c.self.inside.answers.items;
    } in
    subst (λ (o : OutputState). OnErr c.write_all-written.result.1 (FailsToSend o new)) c.self.view_is
    (fails_to_send c.write_all-written.result.1 _ new c.write_all-written.result.0 c.as_slice.result.now c.as_slice.ensures.value
    c.write_all-written.ensures.front c.saturating_add-self-inside.ensures refl c.write_all-written.ensures.broken)
