-- What the tallies of a book count (own).
use Rattle.std.specs.Prelude.{◌≡◌, ◌+◌, ◌≤◌, ◌*◌, Option, length, if◌then◌else◌}
use Rattle.std.specs.Option.{option_map}
use Rattle.call_types.specs.declared.limits.TheConstants.{GIVEN_BYTES_MAX}
use Rattle.byte_ledger.specs.Counted.{Counted, TalliesState}
use Rattle.record_book.specs.Book.{BookState, world_now}
use Rattle.record_book.specs.Counting.{seats_given, only_records, counted_in}

-- the tallies count the records of a book and the bytes that they took and gave, there are shares for each seat, the shares of the
-- house count its receipts, and no count is too great
pub record IsCounted (b : BookState) (tallies : TalliesState) (house : Option Counted) : Type 0 where
  pub counted : tallies.counted ≡ counted_in b
  pub opened : tallies.opened ≡ seats_given b
  pub house_is : house ≡ option_map (λ receipts. only_records (length receipts)) b.house
  pub few_seats : seats_given b + (if (world_now b).closed then 1 else 0) ≤ length b.history + 1
  pub few_in : tallies.counted.bytes_in ≤ GIVEN_BYTES_MAX * length b.history
  pub few_out : tallies.counted.bytes_out ≤ GIVEN_BYTES_MAX * length b.history
