use Rattle.std.proofs.Common.{◌≡◌, ◌∙◌, true, false, sym}
use Rattle.frame_codec.proofs.Framing.{request_framed, request_unflagged}
use Rattle.frame_codec.proofs.encode.request_has_frame.Goals as goal

pub returns-in-Call-clause-framed : goal.returns-in-Call-clause-framed
returns-in-Call-clause-framed c = rw c.in-Call.is (λ is. request_framed _ (c.call_fits.ensures (c.call_flags_fit.ensures.0 is)))

pub returns-in-Call-clause-none : goal.returns-in-Call-clause-none
returns-in-Call-clause-none c =
    rw c.in-Call.is (λ is. request_unflagged _ (λ flags. absurd (let e : true ≡ false = sym (c.call_flags_fit.ensures.1 flags) ∙ is in cc)))
