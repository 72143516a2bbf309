-- What stands under the lock of a run (own).
use Rattle.std.specs.Prelude.{◌≡◌, ℕ, ◌==◌, Bool, true, false, List, All, is_some}
use Rattle.std.specs.List.{list_any, AllPairs}
use Rattle.logbook.specs.Pages.{Book}
use Rattle.slots.specs.Slots.{slot}
use Rattle.byte_ledger.specs.Counted.{Names}
use Rattle.record_book.specs.Book.{BookState, world_now}

-- what the ledgers of a run are called, and its history
pub record RunNames : Type 0 where
  pub names : Names
  pub book : Book

-- a book, the processes that sleep, and those whose connections are lost
pub record SystemState : Type 0 where
  pub book_is : BookState
  pub asleep_are : List ℕ
  pub lost_are : List ℕ

-- what shows that it was told of a process that its connection is lost: which process, and whether the watch marked it
pub record MarkState : Type 0 where
  pub process_is : ℕ
  pub by_watch : Bool

-- the watch marked a process, or it had ended
abbrev pub marked_by_watch : ℕ → MarkState
marked_by_watch process = record { process_is = process; by_watch = true }

-- whether a process is live
abbrev pub is_live_in : BookState → ℕ → Bool
is_live_in b process = is_some (slot (world_now b).processes process)

-- whether a process is among these
abbrev pub is_among : List ℕ → ℕ → Bool
is_among some process = list_any (λ other. other == process) some

-- no two of these are the same
abbrev pub AreDistinct : List ℕ → Type 0
AreDistinct some = AllPairs (λ x y. (x == y) ≡ false) some

-- each of these is live
abbrev pub AreLive : BookState → List ℕ → Type 0
AreLive b some = All (λ process. is_live_in b process ≡ true) some

-- none of those that sleep is lost
abbrev pub AreUnmarked : List ℕ → List ℕ → Type 0
AreUnmarked lost asleep = All (λ process. is_among lost process ≡ false) asleep
