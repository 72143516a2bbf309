-- How a run is closed (own).
use Rattle.std.specs.Prelude.{◌≡◌, ℕ, true, false, List, [], ◌∷◌, ◌++◌, length}
use Rattle.call_types.specs.declared.act.Record.{Record}
use Rattle.slots.specs.Slots.{slot}
use Rattle.process_table.specs.Processes.{is_here}
use Rattle.posix_model.specs.History.{legal_from}
use Rattle.posix_model.specs.declared.world.World.{World}
use Rattle.record_book.specs.Seat.{Receipted}
use Rattle.record_book.specs.Exits.{closing_records, orphans_exits, receipts_from}
use Rattle.record_book.specs.RunState.{RunState, grown}

-- a run with more records
abbrev pub grown_by : RunState → List Record → RunState
grown_by s [] = s
grown_by s (r ∷ rs) = grown_by (grown s r) rs

-- these records are made, with the model's outcomes, and told after others with their places
pub record Adds (old new : RunState) (before after : List Receipted) (rs : List Record) : Type 0 where
  pub is_legal : legal_from old.limits.bounds old.world rs
  pub new_is : new ≡ grown_by old rs
  pub told : after ≡ before ++ receipts_from old.counts.records rs

-- those who are live and attached are so still, and no others
abbrev pub SameHere : World → World → Type 0
SameHere old new = (process : ℕ) → is_here (slot new.processes process) ≡ is_here (slot old.processes process)

-- the exits of all processes without a connection are made
pub record OrphansEnd (old new : RunState) (before after : List Receipted) : Type 0 where
  pub adds : Adds old new before after (orphans_exits old.world)
  pub closed : new.world.closed ≡ old.world.closed
  pub here : SameHere old.world new.world

-- an open run is closed by these and the closing
pub record ClosesBy (old new : RunState) (told : List Receipted) : Type 0 where
  pub was_open : old.world.closed ≡ false
  pub adds : Adds old new [] told (closing_records old.world)
  pub closed : new.world.closed ≡ true
  pub here : SameHere old.world new.world

-- the exits up to a number are made, and these are left
pub record OrphansSoFar (old now : RunState) (before after : List Receipted) (left : List Record) : Type 0 where
  pub done : List Record
  pub adds : Adds old now before after done
  pub all : done ++ left ≡ orphans_exits old.world
  pub closed : now.world.closed ≡ old.world.closed
  pub here : SameHere old.world now.world
  pub numbers : length now.world.processes ≡ length old.world.processes
