-- What holds of each session that is over (own).
use Rattle.std.specs.Prelude.{ℕ, Bool, List, Option, None, Some}
use Rattle.std.specs.List.{AllByRecursion}
use Rattle.frame_codec.specs.Records.{ActFits}
use Rattle.record_book.specs.Seat.{Receipted, SeatState}
use Rattle.session_core.specs.Served.{SessionState, Serves}

-- receipts of acts whose fields are in the ranges that a frame has for them
abbrev pub ActsFit : List Receipted → Type 0
ActsFit receipts = AllByRecursion (λ receipt. ActFits receipt.record_is.act) receipts

-- the receipts of a seat, if there is one, are such
abbrev pub SeatFits : Option SeatState → Type 0
SeatFits None = Unit {0}
SeatFits (Some seat) = ActsFit seat.receipts

-- the acts of each session's receipts have their fields in range: a call is one of the requests that were read from frames, and no other
-- act of a session has fields
abbrev pub ActsOfSeatsFit : Type 0
ActsOfSeatsFit = (always : Bool) (from base : Option (List ℕ)) (s : SessionState) → Serves always from base s → SeatFits s.seat
