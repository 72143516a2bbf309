-- What descriptors that are closed one after another leave: of a process that goes, and before a descriptor is set.
use Rattle.std.specs.Prelude.{◌≡◌, ◌<◌, ◌≤◌, ℕ, zero, suc, None, Some, length, slice_set}
use Rattle.slots.specs.Slots.{slot}
use Rattle.posix_model.specs.Counts.{refs_of, refs}
use Rattle.process_table.specs.Processes.{table_of}
use Rattle.posix_model.specs.Descriptors.{with_descriptor}
use Rattle.posix_model.specs.Sweep.{sweep}
use Rattle.posix_model.specs.Types.{World}

-- a process is gone
abbrev pub without_process : World → ℕ → World
without_process w p = record w { processes = slice_set w.processes p None }

-- the descriptors of a process below a number closed, one after another, each with its sweep
abbrev pub closed_below : ℕ → ℕ → World → World
closed_below p zero w = w
closed_below p (suc fd) w = sweep (with_descriptor (closed_below p fd w) p fd None)

-- where nothing waits for a sweep, a process that goes leaves the world that closing its descriptors in turn leaves (page of exit; XSH 2.14)
abbrev pub ExitCloses : Type 0
ExitCloses = (w : World) (p n : ℕ) → sweep w ≡ w → length (table_of (slot w.processes p)) ≤ n →
    sweep (without_process w p) ≡ without_process (closed_below p n w) p

-- and then no descriptor of the process is open
abbrev pub ClosedIsBare : Type 0
ClosedIsBare = (w : World) (p n m : ℕ) → length (table_of (slot w.processes p)) ≤ n → refs_of m (slot (closed_below p n w).processes p) ≡ 0

-- a descriptor that refers to another description: what it referred to is closed first, and then it refers to the new one (page of dup2)
abbrev pub CloseThenSet : Type 0
CloseThenSet = (w : World) (p fd n : ℕ) → 0 < refs (with_descriptor w p fd None).processes n →
    sweep (with_descriptor (sweep (with_descriptor w p fd None)) p fd (Some n)) ≡ sweep (with_descriptor w p fd (Some n))
