use Rattle.std.proofs.Common.{refl}
use Rattle.audit_core.specs.TraceState.{BodyState}
use Rattle.audit_core.proofs.TraceLemmas as laws
use Rattle.audit_core.proofs.body.Body.take.Goals as goal

pub returns-in-All : goal.returns-in-All
returns-in-All c =
    let old : BodyState = record { headed = c.self.inside.headed; decoder = c.self.inside.decoder; judge = c.self.inside.judging.judge } in
    let new : BodyState = record { headed = c.self.inside.headed; decoder = c.feed_to.new.self; judge = c.feed_to.new.taker.judge } in
    let fed = rw c.in-All.is at c.in_ok-progress.ensures.fed in
    rw (← c.self.view_is) (record {
      headed = refl;
      goes = λ told body j short. rw c.fault_at.ensures
          (laws.same c.pieces_go_on.ensures told body c.args.piece.now fed.0 old new c.self.inside.judging c.feed_to.new.taker _ j refl refl fed.1 fed.2 refl
          short);
    })

pub returns-in-Enough : goal.returns-in-Enough
returns-in-Enough c =
    let old : BodyState = record { headed = c.self.inside.headed; decoder = c.self.inside.decoder; judge = c.self.inside.judging.judge } in
    let fed = rw c.in-Enough.is at c.in_ok-progress.ensures.fed in
    rw (← c.self.view_is, c.place.ensures, c.take.ensures.value) (record {
      headed = refl;
      goes = λ told body j short. laws.illegal told body c.args.piece.now old c.self.inside.judging c.feed_to.new.taker j refl fed.1 (laws.fewer _ _ short);
    })
