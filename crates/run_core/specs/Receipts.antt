-- Whether the receipts of all seats are the records of a book, each of them once (own).
use Rattle.std.specs.Prelude.{◌≡◌, ℕ, ◌+◌, ◌==◌, ◌<◌, ◌⊎◌, nat_lt, List, [], ◌∷◌, Option, None, Some, if◌then◌else◌, length}
use Rattle.std.specs.List.{slice_get}
use Rattle.call_types.specs.declared.act.Act.TheVariants as act
use Rattle.call_types.specs.declared.act.Record.{Record}
use Rattle.call_types.specs.declared.act.TheConstants.{HOUSE}
use Rattle.record_book.specs.Seat.{Receipted}

-- the receipts of one process, or of one that was refused
pub record Held : Type 0 where
  pub pid : ℕ
  pub receipts : List Receipted

-- what is held of a process; nothing where there is none
abbrev pub held_by : Option Held → Held
held_by None = record { pid = 0; receipts = [] }
held_by (Some held) = held

-- a record of this process; those of the house are the closing and the exits of the processes that it ends
abbrev pub IsOwn : ℕ → Record → Type 0
IsOwn pid r = (r.actor ≡ pid) ⊎ ((pid ≡ HOUSE) × (r.act ≡ act.Exit))

-- a place is above the one before, if there is one
abbrev pub IsAbove : Option ℕ → ℕ → Type 0
IsAbove None place = Unit {0}
IsAbove (Some before) place = before < place

-- a receipt is good: it tells the record at its place, that is a record of this process, and its place is above the one before
pub record IsGood (h : List Record) (pid : ℕ) (before : Option ℕ) (r : Receipted) : Type 0 where
  pub stands : slice_get h r.place ≡ Some r.record_is
  pub own : IsOwn pid r.record_is
  pub above : IsAbove before r.place

-- the receipts that name this place are good
abbrev pub GoodFrom : List Record → ℕ → ℕ → Option ℕ → List Receipted → Type 0
GoodFrom h pid p before [] = Unit {0}
GoodFrom h pid p before (r ∷ rs) = (r.place ≡ p → IsGood h pid before r) × GoodFrom h pid p (Some r.place) rs

-- the receipts of all seats that name this place are good
abbrev pub GoodAt : List Record → ℕ → List Held → Type 0
GoodAt h p [] = Unit {0}
GoodAt h p (s ∷ ss) = GoodFrom h s.pid p None s.receipts × GoodAt h p ss

-- how many receipts name a place
abbrev pub names : ℕ → List Receipted → ℕ
names p [] = 0
names p (r ∷ rs) = if r.place == p then names p rs + 1 else names p rs

-- how many receipts of all seats name a place
abbrev pub named : ℕ → List Held → ℕ
named p [] = 0
named p (s ∷ ss) = names p s.receipts + named p ss

-- how many receipts have to name a place: one where there is a record
abbrev pub wanted : ℕ → ℕ → ℕ
wanted len p = if nat_lt p len then 1 else 0

-- a place is sound where its record stands in exactly one receipt of all seats, and is one of that seat's process; where there is no
-- record, no receipt names it
pub record IsSound (h : List Record) (seats : List Held) (p : ℕ) : Type 0 where
  pub good : GoodAt h p seats
  pub covered : named p seats ≡ wanted (length h) p

-- the trace thread received the record of a place, or there is none and it received none
abbrev pub IsReceivedAt : List Record → List Record → ℕ → Type 0
IsReceivedAt h received p = slice_get received p ≡ slice_get h p

-- a place agrees where it is sound and its record was received
pub record Agrees (h : List Record) (seats : List Held) (received : List Record) (p : ℕ) : Type 0 where
  pub sound : IsSound h seats p
  pub received_is : IsReceivedAt h received p

-- a place is below another, if there is one
abbrev pub IsBefore : ℕ → Option ℕ → Type 0
IsBefore p None = Unit {0}
IsBefore p (Some q) = p < q
