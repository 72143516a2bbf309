-- What holds of the descriptors of processes, in words that the pages use.
use Rattle.std.specs.Prelude.{◌≡◌, ◌≢◌, ◌<◌, ℕ, ℤ, pos, true, List, None, Some, is_some, length}
use Rattle.call_types.specs.CallTable.{descriptor_of}
use Rattle.call_types.specs.Descriptions.{can_read, can_write}
use Rattle.plain_world.specs.Proved.Types.{Call, Outcome, OpenFlags, Bounds, World, Mode, OpenDescriptor, OPEN_MAX, EBADF, Replied, Number, Done, Error}
use Rattle.call_types.specs.declared.call.Call.TheVariants as call
use Rattle.slots.specs.Slots.{slot}
use Rattle.posix_model.specs.Proved.Whole.{EachThere}
use Rattle.posix_model.specs.Proved.Numbers.{IsLowest}
use Rattle.process_table.specs.Processes.{table_of}
use Rattle.posix_model.specs.Descriptors.{opened}
use Rattle.posix_model.specs.Proved.Sound.{number_of}
use Rattle.plain_world.specs.Proved.Calls.{outcome_of, before_sweep, IsNoError, GivesDescriptor}

-- a call that leads from one world to another gives the least descriptor that was free in the first (page of open)
pub record GivesLowest (w v : World) (process : ℕ) (c : Call) (outcome : Outcome) : Type 0 where
  pub fd : ℕ
  pub is_lowest : IsLowest (table_of (slot w.processes process)) fd
  pub given : GivesDescriptor v process c outcome fd

-- so does each open that is not refused (page of open; own: of one that waits); what one that waits keeps, its resume tells: `ReadyOpenEnds` of posix_model
abbrev pub OpenGivesLowest : Type 0
OpenGivesLowest = (bounds : Bounds) (w : World) (process : ℕ) (name : List ℕ) (flags : OpenFlags) →
    IsNoError (outcome_of bounds w process (call.Open name flags)) →
    GivesLowest w (before_sweep bounds w process (call.Open name flags)) process (call.Open name flags) (outcome_of bounds w process (call.Open name flags))

-- a close that is not refused leaves its descriptor not open (page of close)
abbrev pub CloseCloses : Type 0
CloseCloses = (bounds : Bounds) (w : World) (process : ℕ) (fd : ℤ) → outcome_of bounds w process (call.Close fd) ≡ Replied Done →
    opened (before_sweep bounds w process (call.Close fd)) process fd ≡ None

-- a descriptor leads to the description that another one led to, and every other one leads where it led
pub record Leads (w v : World) (process fd : ℕ) (from : ℤ) : Type 0 where
  pub there : is_some (number_of w process from) ≡ true
  pub leads : number_of v process (pos fd) ≡ number_of w process from
  pub others : (other : ℤ) → other ≢ pos fd → opened v process other ≡ opened w process other

-- a dup that is not refused tells the least descriptor that is free, and lets it lead to the same description (page of dup)
abbrev pub DupLeads : Type 0
DupLeads = (bounds : Bounds) (w : World) (process : ℕ) (fd : ℤ) (told : ℕ) → outcome_of bounds w process (call.Dup fd) ≡ Replied (Number told) →
    IsLowest (table_of (slot w.processes process)) told × Leads w (before_sweep bounds w process (call.Dup fd)) process told fd

-- a dup2 that is not refused tells its second number, and lets it lead to the description of the first, in a world in which each
-- process has its descriptors, as it has in a history (page of dup2)
abbrev pub Dup2Leads : Type 0
Dup2Leads = (bounds : Bounds) (w : World) (process : ℕ) (fd to : ℤ) (told : ℕ) → EachThere (λ x. length x.table ≡ OPEN_MAX) w.processes →
    outcome_of bounds w process (call.Dup2 fd to) ≡ Replied (Number told) → (pos told ≡ to) × Leads w (before_sweep bounds w process (call.Dup2 fd to)) process
    told fd

-- of equal numbers nothing changes (page of dup2)
abbrev pub Dup2KeepsEqual : Type 0
Dup2KeepsEqual = (bounds : Bounds) (w : World) (process : ℕ) (fd : ℤ) → before_sweep bounds w process (call.Dup2 fd fd) ≡ w

-- a call on a descriptor that is not open is EBADF, whatever else is wrong with it (EBADF of each page)
abbrev pub NotOpenIsBad : Type 0
NotOpenIsBad = (bounds : Bounds) (w : World) (process : ℕ) (fd : ℤ) (c : Call) → opened w process fd ≡ None → descriptor_of c ≡ Some fd →
    outcome_of bounds w process c ≡ Replied (Error EBADF)

-- calls on a descriptor that are not refused are on one that is open for what they do (EBADF of the pages of read and write, and page of ftruncate)
pub record NeedAccess (bounds : Bounds) (w : World) (process : ℕ) (fd : ℤ) (mode : Mode) : Type 0 where
  pub read : (count : ℕ) → IsNoError (outcome_of bounds w process (call.Read fd count)) → can_read mode ≡ true
  pub pread : (start : ℤ) (count : ℕ) → IsNoError (outcome_of bounds w process (call.Pread fd start count)) → can_read mode ≡ true
  pub write : (bytes : List ℕ) → IsNoError (outcome_of bounds w process (call.Write fd bytes)) → can_write mode ≡ true
  pub pwrite : (start : ℤ) (bytes : List ℕ) → IsNoError (outcome_of bounds w process (call.Pwrite fd start bytes)) → can_write mode ≡ true
  pub ftruncate : (len : ℤ) → IsNoError (outcome_of bounds w process (call.Ftruncate fd len)) → can_write mode ≡ true

-- so it is of each descriptor that is open (pages of read, write and ftruncate)
abbrev pub AccessIsNeeded : Type 0
AccessIsNeeded = (bounds : Bounds) (w : World) (process : ℕ) (fd : ℤ) (o : OpenDescriptor) → opened w process fd ≡ Some o →
    NeedAccess bounds w process fd o.description.mode

-- a call leaves each other process that was there before as it was, and so its descriptors (XBD 3, File Descriptor)
abbrev pub ProcessesAreApart : Type 0
ProcessesAreApart = (bounds : Bounds) (w : World) (process : ℕ) (c : Call) (other : ℕ) → other ≢ process → other < length w.processes →
    slot (before_sweep bounds w process c).processes other ≡ slot w.processes other
