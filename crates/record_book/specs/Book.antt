-- What contracts see of a book, and what acts do to it.
use Rattle.std.specs.Prelude.{◌≡◌, ℕ, ◌+◌, Bool, false, List, ◌∷◌, [], ◌++◌, Option, Some, length, None}
use Rattle.call_types.specs.declared.limits.Limits.{Limits}
use Rattle.call_types.specs.declared.act.Act.{Act}
use Rattle.call_types.specs.declared.act.Record.{Record}
use Rattle.posix_model.specs.Step.{outcome_of}
use Rattle.posix_model.specs.History.{world_of}
use Rattle.posix_model.specs.Turns.{took, gave}
use Rattle.posix_model.specs.declared.world.World.{World}
use Rattle.byte_ledger.specs.Counted.{counted_more}
use Rattle.record_book.specs.RunState.{RunState, run_at}
use Rattle.record_book.specs.Seat.{Receipted, SeatState}

-- the limits of a run, its records so far, the receipts of the house, which it holds until the run is closed, and whether the
-- reading end of its ring was taken
pub record BookState : Type 0 where
  pub limits : Limits
  pub history : List Record
  pub house : Option (List Receipted)
  pub is_traced : Bool

-- a book without records
abbrev pub new_book : Limits → BookState
new_book limits = record { limits = limits; history = []; house = Some []; is_traced = false }

-- how far its records lead
abbrev pub run_of : BookState → RunState
run_of b = run_at b.limits b.history

-- the world after the records so far
abbrev pub world_now : BookState → World
world_now b = world_of b.limits.bounds b.history

-- one record of this act is appended, with the model's outcome, and its receipt tells its place
pub record Appends (old new : BookState) (actor : ℕ) (act : Act) (receipt : Receipted) : Type 0 where
  pub outcome : outcome_of old.limits.bounds (world_now old) actor act ≡ Some receipt.record_is.outcome
  pub actor_is : receipt.record_is.actor ≡ actor
  pub act_is : receipt.record_is.act ≡ act
  pub place : receipt.place ≡ length old.history
  pub history : new.history ≡ old.history ++ receipt.record_is ∷ []
  pub limits : new.limits ≡ old.limits
  pub house : new.house ≡ old.house
  pub is_traced : new.is_traced ≡ old.is_traced

-- the seat has one more receipt, and has seen all records up to it
pub record Receives (old new : SeatState) (receipt : Receipted) : Type 0 where
  pub pid : new.pid ≡ old.pid
  pub seen : new.seen ≡ receipt.place + 1
  pub receipts : new.receipts ≡ old.receipts ++ receipt ∷ []

-- the seat counts one record more, and the bytes that it took and gave in the world before it
abbrev pub CountsMore : BookState → SeatState → SeatState → Record → Type 0
CountsMore old s t r = t.counted ≡ counted_more (took (world_now old) r) (gave (world_now old) r) s.counted

-- one record of this act of a seat's process is appended, and the seat has its receipt, and counts it
pub record Records (old new : BookState) (s t : SeatState) (act : Act) (receipt : Receipted) : Type 0 where
  pub appends : Appends old new s.pid act receipt
  pub receives : Receives s t receipt
  pub counts : CountsMore old s t receipt.record_is

-- what contracts see of a closed book: its house has given its receipts away (own)
abbrev pub closed_book : Limits → List Record → Bool → BookState
closed_book limits records is_traced = record { limits = limits; history = records; house = None; is_traced = is_traced }
