-- What holds of every step and history.
use Rattle.std.specs.Prelude.{◌≡◌, ℕ, ◌+◌, ◌||◌, Bool, true, List, ◌++◌, None, Some, length, if◌then◌else◌}
use Rattle.posix_model.specs.Types.{Act, Record, Bounds, World}
use Rattle.slots.specs.Slots.{slot, live}
use Rattle.posix_model.specs.Kept.{KeptExactly}
use Rattle.posix_model.specs.Proved.Whole.{IsWhole}
use Rattle.posix_model.specs.Proved.Numbers.{NumbersRise}
use Rattle.posix_model.specs.Sweep.{is_referred, is_open, is_wanted, without_gone_pipe, sweep}
use Rattle.posix_model.specs.Step.{Stepped, step}
use Rattle.posix_model.specs.Proved.Sound.{added, ended, closes, adds}
use Rattle.posix_model.specs.History.{world_of}
use Rattle.posix_model.specs.Reserve.{has_reserve, CanEnd}

-- from a world in which nothing refers to what is gone, a step uses no number again (own)
abbrev pub StepRaisesNumbers : Type 0
StepRaisesNumbers = (bounds : Bounds) (w : World) (actor : ℕ) (act : Act) (s : Stepped) → IsWhole w → step bounds w actor act ≡ Some s → NumbersRise w s.world

-- and leaves a world in which nothing refers to what is gone (own)
abbrev pub StepKeepsWhole : Type 0
StepKeepsWhole = (bounds : Bounds) (w : World) (actor : ℕ) (act : Act) (s : Stepped) → IsWhole w → step bounds w actor act ≡ Some s → IsWhole s.world

-- so in no history, legal or not, does anything refer to what is gone (own)
abbrev pub HistoryIsWhole : Type 0
HistoryIsWhole = (bounds : Bounds) (h : List Record) → IsWhole (world_of bounds h)

-- and no number of a history is used again by what it goes on with, however long (own)
abbrev pub HistoryRaisesNumbers : Type 0
HistoryRaisesNumbers = (bounds : Bounds) (h more : List Record) → NumbersRise (world_of bounds h) (world_of bounds (h ++ more))

-- nothing is left to sweep after a sweep
abbrev pub SweepSettles : Type 0
SweepSettles = (w : World) → sweep (sweep w) ≡ sweep w

-- so the world after a step is its own sweep
abbrev pub StepSettles : Type 0
StepSettles = (bounds : Bounds) (w : World) (actor : ℕ) (act : Act) (s : Stepped) → step bounds w actor act ≡ Some s → sweep s.world ≡ s.world

-- and so is every world of a history (own)
abbrev pub HistorySettles : Type 0
HistorySettles = (bounds : Bounds) (h : List Record) → sweep (world_of bounds h) ≡ world_of bounds h

-- so many processes are there more, so many ended, and the run is closed if it was before or is closed now
pub record Counts (w v : World) (more ends : ℕ) (closing : Bool) : Type 0 where
  pub all : length v.processes ≡ length w.processes + more
  pub living : live v.processes + ends ≡ live w.processes + more
  pub closed : v.closed ≡ (closing || w.closed)

-- a step adds as many processes as its act and outcome tell, ends as many as its act does, and closes the run where its act does
abbrev pub StepTellsProcesses : Type 0
StepTellsProcesses = (bounds : Bounds) (w : World) (actor : ℕ) (act : Act) (s : Stepped) → step bounds w actor act ≡ Some s →
    Counts w s.world (added act s.outcome) (ended act) (closes act)

-- as many as are known before it
abbrev pub StepPlansProcesses : Type 0
StepPlansProcesses = (bounds : Bounds) (w : World) (actor : ℕ) (act : Act) (s : Stepped) → step bounds w actor act ≡ Some s →
    Counts w s.world (adds w act) (ended act) (closes act)

-- a run that can be ended after a history could be ended after each record of it
abbrev pub ReserveWasKept : Type 0
ReserveWasKept = (bounds : Bounds) (most : ℕ) (h : List Record) → has_reserve most (world_of bounds h) (length h) ≡ true → CanEnd bounds (Some most) h

-- what a sweep leaves, as it was and under its number: of the descriptions those with a descriptor, of the pipes those with
-- an open end, of the files those with a name or a live description; a FIFO forgets a pipe that is gone (page of close)
pub record Swept (w v : World) : Type 0 where
  pub descriptions : (n : ℕ) → slot v.descriptions n ≡ (if is_referred w.processes n then slot w.descriptions n else None)
  pub pipes : (n : ℕ) → slot v.pipes n ≡ (if is_open v.descriptions n then slot w.pipes n else None)
  pub files : (n : ℕ) → slot v.files n ≡ (if is_wanted w.names v.descriptions n then without_gone_pipe v.descriptions (slot w.files n) else None)
  pub numbers : (length v.descriptions ≡ length w.descriptions) × (length v.pipes ≡ length w.pipes) × (length v.files ≡ length w.files)
  pub processes : v.processes ≡ w.processes
  pub names : v.names ≡ w.names
  pub closed : v.closed ≡ w.closed

-- every sweep leaves just that (page of close)
abbrev pub SweepLeaves : Type 0
SweepLeaves = (w : World) → Swept w (sweep w)

-- what is there is just that, at any time of a history (page of close)
abbrev pub HistoryKeepsExactly : Type 0
HistoryKeepsExactly = (bounds : Bounds) (h : List Record) → KeptExactly (world_of bounds h)
