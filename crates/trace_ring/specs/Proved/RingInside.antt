-- What holds of each ring of a trace (own).
use Rattle.std.specs.Prelude.{◌≡◌, []}
use Rattle.std.specs.Option.{ForSome}
use Rattle.rtrb.specs.Ring.{received}
use Rattle.trace_ring.specs.declared.trace_ring.TraceRing.TheInside.{Inside}

-- nothing was read as long as the reading end is here (own)
abbrev pub IsRing : Inside → Type 0
IsRing r = ForSome r.consumer (λ c. received c ≡ [])
