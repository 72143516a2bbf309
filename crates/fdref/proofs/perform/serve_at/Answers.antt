use Rattle.std.proofs.Common.{inl, inr, refl}
use Rattle.fdref.proofs.perform.serve_at.Goals as goal

pub returns-in-Some : goal.returns-in-Some
returns-in-Some g c = inl (record {
  asked = _;
  coming_is = c.in-Some.ensures.coming;
  limits_are = refl;
  sessions_are = c.from.ensures;
  blank = c.requires.blank;
  sink = _;
  reports = c.serve_on-served.ensures.reports;
})

pub returns-in-None : goal.returns-in-None
returns-in-None g c = inr (record { reason = c.in-None.ensures.none; is = refl; same = refl })
