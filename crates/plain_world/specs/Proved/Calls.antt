-- What a call tells, the world that it leaves before the sweep, and the descriptor that it gives.
use Rattle.std.specs.Prelude.{◌≡◌, ◌≢◌, ◌⊎◌, ℕ, Some}
use Rattle.plain_world.specs.Proved.Types.{Call, Errno, Outcome, Bounds, World, Parked, Replied, Number, Error}
use Rattle.call_types.specs.declared.act.Act.TheVariants as act
use Rattle.slots.specs.Slots.{slot}
use Rattle.process_table.specs.Processes.{parked_of}
use Rattle.posix_model.specs.Types.{ParkedAt}
use Rattle.posix_model.specs.Change.{changed}
use Rattle.posix_model.specs.Step.{given, decided}

-- what is recorded of a call
abbrev pub outcome_of : Bounds → World → ℕ → Call → Outcome
outcome_of bounds w process c = (decided bounds w process c).outcome

-- the world after a call, before the sweep
abbrev pub before_sweep : Bounds → World → ℕ → Call → World
before_sweep bounds w process c = changed w (given (act.Call c)) (decided bounds w process c).change

-- an outcome is no error
abbrev pub IsNoError : Outcome → Type 0
IsNoError outcome = (error : Errno) → outcome ≢ Replied (Error error)

-- a process waits in this call, which has moved no byte, and keeps this descriptor for it (own)
pub record WaitsWith (w : World) (process : ℕ) (c : Call) (fd : ℕ) : Type 0 where
  pub parked : Parked
  pub waits : parked_of (slot w.processes process) ≡ Some parked
  pub call_is : parked.call ≡ c
  pub keeps : parked.fd ≡ fd
  pub unmoved : parked.moved ≡ 0

-- a call gives a descriptor: it tells the number, or its process waits in it, and keeps the descriptor (page of open; own: of one that waits)
abbrev pub GivesDescriptor : World → ℕ → Call → Outcome → ℕ → Type 0
GivesDescriptor w process c outcome fd = (outcome ≡ Replied (Number fd)) ⊎ ((outcome ≡ ParkedAt 0) × WaitsWith w process c fd)
