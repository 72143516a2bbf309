use Rattle.std.proofs.Common.{ap, length}
use Rattle.job_core.specs.ShownState.{ShownState}
use Rattle.job_core.proofs.ShowLemmas.{body_taken, few_added, places_left}
use Rattle.job_core.proofs.show.ShownTrace.take_body.Goals as goal

pub put_all-requires : goal.put_all-requires
put_all-requires c =
    let few = few_added c.self.inside.decoder c.feed.new.self c.args.piece.now c.in_ok-fed.fed.values.items c.in_ok-fed.fed.progress c.in_ok-fed.ensures.fed in
    record {
      few = places_left c.self.inside.lines.place (length c.self.inside.decoder.held) (length c.args.piece.now) (length c.in_ok-fed.fed.values.items)
          (length c.as_slice.result.now)
          (rw (← c.self.view_is) at c.requires.few) few (ap length c.as_slice.ensures.value);
    }

pub returns-clause-takes : goal.returns-clause-takes
returns-clause-takes c =
    let old : ShownState = record {
      front = c.self.inside.front;
      headed = c.self.inside.headed;
      decoder = c.self.inside.decoder;
      lines =
          c.self.inside.lines;
    } in
    let new : ShownState = record { front = c.self.inside.front; headed = c.self.inside.headed; decoder = c.feed.new.self; lines = c.put_all.new.self } in
    rw (← c.self.view_is) (body_taken c.args.headed c.args.piece.now c.args.out.now.items c.put_all.new.out.items old new c.in_ok-fed.fed.values.items
    c.in_ok-fed.fed.progress c.fault_at.result c.pieces_go_on.ensures
    c.in_ok-fed.ensures.fed (rw c.as_slice.ensures.value at c.in_ok-put_all.ensures.text) (rw c.as_slice.ensures.value at c.in_ok-put_all.ensures.next)
    c.fault_at.ensures)
