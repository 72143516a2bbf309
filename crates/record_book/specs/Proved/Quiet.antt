-- Receipts of records that took and gave no bytes (own).
use Rattle.std.specs.Prelude.{◌≡◌, List, sum_by}
use Rattle.record_book.specs.Seat.{Receipted}
use Rattle.record_book.specs.Counting.{given_by, most_taken_by}

-- these records took no bytes and gave none
pub record AreQuiet (receipts : List Receipted) : Type 0 where
  pub take_none : sum_by most_taken_by receipts ≡ 0
  pub give_none : sum_by given_by receipts ≡ 0
