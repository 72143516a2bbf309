-- What a join and an attach give (own).
use Rattle.std.specs.Prelude.{◌≡◌, ℕ, ◌+◌, true, false, [], ◌∷◌, length}
use Rattle.call_types.specs.declared.act.Act.{Act}
use Rattle.call_types.specs.declared.act.Act.TheVariants as act
use Rattle.slots.specs.Slots.{slot}
use Rattle.process_table.specs.Processes.{awaits}
use Rattle.posix_model.specs.Join.{is_full}
use Rattle.record_book.specs.Seat.{Receipted, SeatState}
use Rattle.record_book.specs.Book.{BookState, world_now, Appends}
use Rattle.record_book.specs.Counting.{only_records}
use Rattle.record_book.specs.declared.opening.Opened.{Opened as OpenedOf}
use Rattle.record_book.specs.declared.opening.Opened.TheVariants.{Seated, Refused}

-- what an opening of some book gives: contracts see a seat as what it holds
abbrev pub Opened : Type 0
Opened = OpenedOf SeatState SeatState

-- the number of the next process
abbrev pub next_pid : BookState → ℕ
next_pid b = length (world_now b).processes

-- the seat of a process whose first record this is, which takes and gives no bytes
abbrev pub first_seat : ℕ → Receipted → SeatState
first_seat process receipt = record { pid = process; seen = receipt.place + 1; receipts = receipt ∷ []; counted = only_records 1 }

-- the act is recorded, and its receipt is the first of the seat
pub record IsOpening (old new : BookState) (process : ℕ) (act : Act) (s : SeatState) (receipt : Receipted) : Type 0 where
  pub appends : Appends old new process act receipt
  pub seat : s ≡ first_seat process receipt

-- a join: a seat where there is room for a process, else a spent one with the receipt of the recorded error
abbrev pub JoinsBy : BookState → BookState → Opened → Receipted → Type 0
JoinsBy old new (Seated s) receipt = (is_full (world_now old) ≡ false) × IsOpening old new (next_pid old) act.Join s receipt
JoinsBy old new (Refused s) receipt = (is_full (world_now old) ≡ true) × IsOpening old new (next_pid old) act.Join s receipt

-- the same, with some receipt
abbrev pub Joins : BookState → BookState → Opened → Type 0
Joins old new opened = (receipt : Receipted) × JoinsBy old new opened receipt

-- an attach: a seat where the process awaits its connection, else a spent one with the receipt of the recorded error
abbrev pub AttachesBy : BookState → BookState → ℕ → Opened → Receipted → Type 0
AttachesBy old new process (Seated s) receipt = (awaits (slot (world_now old).processes process) ≡ true) × IsOpening old new process act.Attach s receipt
AttachesBy old new process (Refused s) receipt = (awaits (slot (world_now old).processes process) ≡ false) × IsOpening old new process act.Attach s receipt

-- the same, with some receipt
abbrev pub Attaches : BookState → BookState → ℕ → Opened → Type 0
Attaches old new process opened = (receipt : Receipted) × AttachesBy old new process opened receipt
