-- What the house holds until the run is closed.
use Rattle.std.specs.Prelude.{◌≡◌, ℕ, ◌+◌, ◌≤◌, Option, None, Some, vec_len, vec_capacity}
use Rattle.std.specs.Option.{option_map}
use Rattle.call_types.specs.declared.act.Record.{Record}
use Rattle.record_book.specs.declared.journal.House.{House}
use Rattle.record_book.specs.HouseReceipts.{receipts_of}

-- the record of the closing, which is prepared
abbrev pub closing_of : Option House → Option Record
closing_of house = option_map (λ h. h.closing) house

-- there is room in it for the receipts of so many exits and of the closing
abbrev pub HasRoom : ℕ → Option House → Type 0
HasRoom exits None = Unit {0}
HasRoom exits (Some h) = vec_len h.receipts + exits + 1 ≤ vec_capacity h.receipts

-- it holds the same, and has no less room
pub record SameHouse (old new : Option House) : Type 0 where
  pub receipts : receipts_of new ≡ receipts_of old
  pub closing : closing_of new ≡ closing_of old
  pub room : (exits : ℕ) → HasRoom exits old → HasRoom exits new
