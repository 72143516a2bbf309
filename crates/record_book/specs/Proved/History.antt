-- What holds of the records of a run and of the ring into which they were put (own).
use Rattle.std.specs.Prelude.{◌≡◌, ◌+◌, ◌≤◌, map, vec_len, vec_capacity}
use Rattle.std.specs.Arc.{arc_value}
use Rattle.call_types.specs.declared.limits.TheConstants.{RECORDS_MAX}
use Rattle.record_book.specs.declared.history.History.TheInside.{Inside}

-- the records that are kept are those that were put into the ring; there is room to keep all for which the ring has room; and all
-- together are no more than a run may have (own)
pub record IsHistory (h : Inside) : Type 0 where
  pub same : map arc_value h.kept.items ≡ h.ring.sent
  pub room : vec_len h.kept + h.ring.free ≤ vec_capacity h.kept
  pub few : vec_len h.kept + h.ring.free ≤ RECORDS_MAX
