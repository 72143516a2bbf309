-- The receipts that the house holds.
use Rattle.std.specs.Prelude.{List, Option}
use Rattle.std.specs.Option.{option_map}
use Rattle.record_book.specs.Seat.{Receipted}
use Rattle.record_book.specs.declared.journal.House.{House}

-- the receipts of the house
abbrev pub receipts_of : Option House → Option (List Receipted)
receipts_of house = option_map (λ h. h.receipts.items) house
