use Rattle.std.proofs.Common.{◌∙◌, Some, ap, refl}
use Rattle.job_core.specs.ShownState.{ShownState}
use Rattle.job_core.proofs.ShowLemmas.{head_piece_in}
use Rattle.job_core.proofs.show.ShownTrace.take_head.Goals as goal

pub returns-in-Headed : goal.returns-in-Headed
returns-in-Headed c =
    let old : ShownState = record {
      front = c.self.inside.front;
      headed = c.self.inside.headed;
      decoder = c.self.inside.decoder;
      lines =
          c.self.inside.lines;
    } in
    let mid : ShownState = record { front = c.take.new.self; headed = Some c.in-Headed.length; decoder = c.self.inside.decoder; lines = c.self.inside.lines } in
    let heads = rw c.in-Headed.is at c.in_ok-take.ensures in
    rw (← c.self.view_is) (head_piece_in c.take_body.result c.in-Headed.told c.in-Headed.length c.args.piece.now c.in-Headed.rest.now c.args.out.now.items
    c.take_body.new.out.items old mid c.take_body.new.self
    (ap (λ (s : ShownState). s.headed) c.self.view_is ∙ c.requires.head) heads.0 heads.1 refl refl c.take_body.ensures.headed c.take_body.ensures.takes)
