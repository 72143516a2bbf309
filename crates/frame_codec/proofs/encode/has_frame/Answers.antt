use Rattle.std.proofs.Common.{◌≡◌, ◌∙◌, true, false, sym}
use Rattle.frame_codec.proofs.Framing.{record_unflagged}
use Rattle.frame_codec.proofs.encode.has_frame.Goals as goal

pub returns-then-not-flags_fit-clause-none : goal.returns-then-not-flags_fit-clause-none
returns-then-not-flags_fit-clause-none c = λ _.
    record_unflagged _ (λ flags. absurd (let e : true ≡ false = sym (c.flags_fit.ensures.1 flags) ∙ c.if-not-flags_fit.true in cc))
