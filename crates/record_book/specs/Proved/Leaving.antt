-- How a closing ends those that nobody attached (own).
use Rattle.std.specs.Prelude.{◌≡◌, ℕ, ◌∷◌, [], ◌++◌, List, None, Some, length, slice_set}
use Rattle.record_book.specs.Seat.{Receipted}
use Rattle.record_book.specs.Book.{BookState, world_now}
use Rattle.record_book.specs.Exits.{exit_record, closing_record, orphans_exits}
use Rattle.record_book.specs.Ends.{told_more}

-- the exit of a process is recorded, and the house has its receipt
pub record IsOrphansExit (old new : BookState) (process : ℕ) : Type 0 where
  pub limits : new.limits ≡ old.limits
  pub is_traced : new.is_traced ≡ old.is_traced
  pub history : new.history ≡ old.history ++ exit_record process ∷ []
  pub house : new.house ≡ told_more (length old.history) (exit_record process ∷ []) old.house
  pub processes : (world_now new).processes ≡ slice_set (world_now old).processes process None
  pub closed : (world_now new).closed ≡ (world_now old).closed

-- the closing is recorded, and the house gives its receipts away, with that of the closing
pub record IsShutBy (old new : BookState) (receipts : List Receipted) : Type 0 where
  pub limits : new.limits ≡ old.limits
  pub is_traced : new.is_traced ≡ old.is_traced
  pub history : new.history ≡ old.history ++ closing_record ∷ []
  pub receipts_are : Some receipts ≡ told_more (length old.history) (closing_record ∷ []) old.house
  pub given_away : new.house ≡ None

-- the exits of all processes without a connection are recorded, and the house has their receipts
pub record OrphansEnd (old new : BookState) : Type 0 where
  pub limits : new.limits ≡ old.limits
  pub is_traced : new.is_traced ≡ old.is_traced
  pub history : new.history ≡ old.history ++ orphans_exits (world_now old)
  pub house : new.house ≡ told_more (length old.history) (orphans_exits (world_now old)) old.house
  pub closed : (world_now new).closed ≡ (world_now old).closed
