-- What an exit and the closing give (own).
use Rattle.std.specs.Prelude.{◌≡◌, ℕ, true, false, ◌++◌, List, Option, None, Some, length}
use Rattle.std.specs.Option.{option_map}
use Rattle.call_types.specs.declared.act.TheConstants.{HOUSE}
use Rattle.call_types.specs.declared.act.Act.TheVariants as act
use Rattle.call_types.specs.declared.act.Record.{Record}
use Rattle.record_book.specs.Seat.{Receipted, SeatState}
use Rattle.record_book.specs.Book.{BookState, world_now, Records}
use Rattle.record_book.specs.Counting.{only_records}
use Rattle.record_book.specs.Exits.{closing_records, receipts_from}

-- the exit of a seat's process is recorded, and its receipt is the last of the seat
abbrev pub ExitsBy : BookState → BookState → SeatState → SeatState → Receipted → Type 0
ExitsBy old new s spent receipt = Records old new s spent act.Exit receipt

-- the same, with some receipt
abbrev pub Exits : BookState → BookState → SeatState → SeatState → Type 0
Exits old new s spent = (receipt : Receipted) × ExitsBy old new s spent receipt

-- the receipts of the house with those of more records, from a place on
abbrev pub told_more : ℕ → List Record → Option (List Receipted) → Option (List Receipted)
told_more place rs house = option_map (λ receipts. receipts ++ receipts_from place rs) house

-- these records are appended; the seat of the house has its receipts and theirs, has seen all records, and counts one for each
-- receipt; and the book holds no receipts of the house any more
pub record Ends (old new : BookState) (rs : List Record) (house : SeatState) : Type 0 where
  pub limits : new.limits ≡ old.limits
  pub is_traced : new.is_traced ≡ old.is_traced
  pub history : new.history ≡ old.history ++ rs
  pub pid : house.pid ≡ HOUSE
  pub seen : house.seen ≡ length new.history
  pub receipts : Some house.receipts ≡ told_more (length old.history) rs old.house
  pub counts : house.counted ≡ only_records (length house.receipts)
  pub given_away : new.house ≡ None

-- a run that is open is closed by the exits of the processes without a connection and the closing; one that is closed stays as it is
abbrev pub Closes : BookState → BookState → Option SeatState → Type 0
Closes old new (Some house) = ((world_now old).closed ≡ false) × Ends old new (closing_records (world_now old)) house
Closes old new None = ((world_now old).closed ≡ true) × (new ≡ old)
