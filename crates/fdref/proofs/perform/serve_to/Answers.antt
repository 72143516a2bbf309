use Rattle.std.proofs.Common.{inl, inr, refl}
use Rattle.fdref.proofs.perform.serve_to.Goals as goal

pub returns-in-Some : goal.returns-in-Some
returns-in-Some g c = inl c.serve_at-served.ensures

pub returns-in-None : goal.returns-in-None
returns-in-None g c = inr (record { reason = c.in-None.ensures.none; is = refl; same = refl })
