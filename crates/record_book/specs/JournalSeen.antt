-- What contracts see of a journal.
use Rattle.std.specs.Prelude.{List}
use Rattle.call_types.specs.declared.act.Record.{Record}
use Rattle.record_book.specs.Book.{BookState}
use Rattle.record_book.specs.HouseReceipts.{receipts_of}
use Rattle.record_book.specs.declared.journal.Journal.TheInside.{Inside}

-- the records of a journal, in the order of their places
abbrev pub records_in : Inside → List Record
records_in b = b.history.sent

-- what contracts see of a journal, and of the book that holds it
abbrev pub state_of : Inside → BookState
state_of b = record { limits = b.progress.limits; history = records_in b; house = receipts_of b.house; is_traced = b.history.is_taken }
