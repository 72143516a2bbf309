use Rattle.std.proofs.Common.{◌∙◌, ap, sym}
use Rattle.job_core.specs.ShownState.{ShownState}
use Rattle.job_core.proofs.ShowLemmas.{body_piece_in}
use Rattle.job_core.proofs.show.ShownTrace.take.Goals as goal

pub returns-in-Some : goal.returns-in-Some
returns-in-Some c =
    body_piece_in c.take_body.result c.in-Some.headed c.args.piece.now c.args.out.now.items c.take_body.new.out.items c.args.self.now c.take_body.new.self
    c.headers_go_on.ensures
    (ap (λ (s : ShownState). s.headed) (sym c.self.view_is) ∙ c.in-Some.is) c.take_body.ensures.headed c.take_body.ensures.takes
