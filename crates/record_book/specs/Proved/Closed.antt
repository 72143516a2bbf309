-- What is held of a run that is closed (own).
use Rattle.std.specs.Prelude.{◌≡◌, ◌+◌, ◌≤◌, true, None, length}
use Rattle.posix_model.specs.History.{legal}
use Rattle.byte_ledger.specs.Counted.{TalliesState}
use Rattle.record_book.specs.Book.{BookState, world_now}
use Rattle.posix_model.specs.Reserve.{exits_left}
use Rattle.record_book.specs.Proved.Counted.{IsCounted}

-- the run is closed, its records are a run of the model within its limits, and the tallies count them (own)
pub record IsClosed (b : BookState) (tallies : TalliesState) : Type 0 where
  pub closed : (world_now b).closed ≡ true
  pub is_legal : legal b.limits.bounds b.history
  pub reserve : length b.history + exits_left (world_now b) ≤ b.limits.records
  pub counted : IsCounted b tallies None
