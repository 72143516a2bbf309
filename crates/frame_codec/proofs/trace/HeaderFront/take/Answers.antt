use Rattle.std.proofs.Common.{◌≡◌, ◌∙◌, ◌++◌, ◌-◌, length, drop, sym, ap, rules}
use Rattle.frame_codec.specs.Trace.{header}
use Rattle.frame_codec.specs.declared.trace.Header.TheVariants.{Short}
use Rattle.frame_codec.proofs.HeaderLaws.{none_met, whole_met}
use Rattle.frame_codec.proofs.trace.HeaderFront.take.Goals as goal

pub returns-in-Unheaded : goal.returns-in-Unheaded
returns-in-Unheaded c =
    let met : c.as_slice.result.now ≡ c.args.self.now ++ c.split_at.result.0.now = search rules in
    none_met c.headers_go_on.ensures _ _ _ _ _ c.split_at.ensures.front met (sym c.read_header.ensures ∙ c.in-Unheaded.is)

pub returns-in-Headed : goal.returns-in-Headed
returns-in-Headed c =
    let met : c.as_slice.result.now ≡ c.args.self.now ++ c.split_at.result.0.now = search rules in
    let short : header c.args.self.now ≡ Short = search rules in
    let before : c.len-before.result ≡ length c.args.self.now = search rules in
    let whole = whole_met c.headers_go_on.ensures _ _ _ _ _ c.in-Headed.told c.in-Headed.length short c.split_at.ensures.front met (sym c.read_header.ensures ∙
    c.in-Headed.is) in
    (whole.0, c.split_at-in-Headed.ensures.back ∙ ap (λ n. drop (c.in-Headed.length - n) c.args.piece.now) before ∙ whole.1)
