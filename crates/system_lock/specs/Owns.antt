-- What a seat owns in the history of its run (own).
use Rattle.std.specs.Prelude.{◌≡◌, ◌<◌, ℕ, ◌+◌, List, [], ◌∷◌, ◌++◌, Option, IfSome, All, AllPairs, length, take, fold, sum_by}
use mathlib.Core.List.{IsPrefix}
use Rattle.call_types.specs.declared.act.Record.{Record}
use Rattle.call_types.specs.declared.limits.Limits.{Limits}
use Rattle.byte_ledger.specs.Counted.{Counted}
use Rattle.posix_model.specs.Types.{Bounds}
use Rattle.posix_model.specs.History.{world_of}
use Rattle.posix_model.specs.Turns.{took}
use Rattle.record_book.specs.Seat.{Receipted, SeatState}
use Rattle.record_book.specs.Counting.{given_by}

-- the record of a receipt stands in a history, at the place that the receipt tells
pub record StandsIn (h : List Record) (r : Receipted) : Type 0 where
  pub before : List Record
  pub place_is : length before ≡ r.place
  pub begins : IsPrefix (before ++ r.record_is ∷ []) h

-- the bytes that the record of a receipt took, in the world that the records before its place lead to
abbrev pub taken_in : Bounds → List Record → Receipted → ℕ
taken_in bounds h r = took (world_of bounds (take r.place h)) r.record_is

-- so many records, and the bytes that these took and gave in a history
abbrev pub counted_of : Bounds → List Record → List Receipted → Counted
counted_of bounds h receipts = record { records = length receipts; bytes_in = sum_by (taken_in bounds h) receipts; bytes_out = sum_by given_by receipts }

-- who has these receipts has seen all records up to the last of them
abbrev pub seen_with : List Receipted → ℕ
seen_with receipts = fold (λ (seen : ℕ) (r : Receipted). r.place + 1) 0 receipts

-- the records of a seat's receipts are of its process and stand in a history, each at its place, one after another; and the seat has seen
-- all records up to the last of these, and counts just these
pub record OwnsIn (bounds : Bounds) (h : List Record) (s : SeatState) : Type 0 where
  pub actors : All (λ (r : Receipted). r.record_is.actor ≡ s.pid) s.receipts
  pub stand : All (StandsIn h) s.receipts
  pub ascend : AllPairs (λ (x y : Receipted). x.place < y.place) s.receipts
  pub seen : s.seen ≡ seen_with s.receipts
  pub counts : s.counted ≡ counted_of bounds h s.receipts

-- the same in a run with these limits, where they are known
abbrev pub OwnsUnder : Option Limits → List Record → SeatState → Type 0
OwnsUnder limits h s = IfSome limits (λ (l : Limits). OwnsIn l.bounds h s)
