-- What holds of processes that fork, are attached and end, and of a run that is closed, in words that the pages use.
use Rattle.std.specs.Prelude.{◌≡◌, ◌≢◌, ℕ, ℤ, true, false, [], ◌∷◌, ◌++◌, Option, None, Some, length, slice_set, if◌then◌else◌}
use Rattle.std.specs.Option.{option_map}
use Rattle.plain_world.specs.Proved.Types.{Bounds, World, Description, DescriptionEdit, OpenDescriptor, EAGAIN, ESRCH, Replied, Number, Done, Error}
use Rattle.call_types.specs.declared.act.TheConstants.{HOUSE}
use Rattle.call_types.specs.declared.act.Act.TheVariants as act
use Rattle.call_types.specs.declared.call.Call.TheVariants as call
use Rattle.slots.specs.Slots.{slot, edited}
use Rattle.call_types.specs.Descriptions.{described}
use Rattle.process_table.specs.Processes.{table_of, awaits, process_with, with_connection}
use Rattle.posix_model.specs.Kept.{IsThere}
use Rattle.posix_model.specs.Descriptors.{opened, with_edit}
use Rattle.posix_model.specs.Proved.Sound.{number_of}
use Rattle.posix_model.specs.Join.{is_full}
use Rattle.posix_model.specs.Sweep.{is_referred, is_wanted, without_gone_pipe, sweep}
use Rattle.posix_model.specs.Step.{Stepped, step}
use Rattle.plain_world.specs.Proved.Calls.{outcome_of, before_sweep}

-- there is one more process, under the next number, with the descriptors of its parent, in no call and without a connection;
-- everything else is as it was
pub record Forks (w v : World) (parent child : ℕ) : Type 0 where
  pub number : child ≡ length w.processes
  pub world : v ≡ record w { processes = w.processes ++ Some (process_with (table_of (slot w.processes parent)) false) ∷ [] }

-- a fork of a live process that is not refused tells the next number, and adds just a child under it (page of fork)
abbrev pub ForkCopies : Type 0
ForkCopies = (bounds : Bounds) (w : World) (parent child : ℕ) → IsThere w.processes parent → outcome_of bounds w parent call.Fork ≡ Replied (Number child) →
    Forks w (before_sweep bounds w parent call.Fork) parent child

-- after it each descriptor of the child leads to the description that the same descriptor of its parent leads to (page of fork)
abbrev pub ForkShares : Type 0
ForkShares = (bounds : Bounds) (w : World) (parent child : ℕ) (fd : ℤ) → IsThere w.processes parent → outcome_of bounds w parent call.Fork ≡ Replied
    (Number child) →
    number_of (before_sweep bounds w parent call.Fork) child fd ≡ number_of (before_sweep bounds w parent call.Fork) parent fd

-- a fork where there may be no further process is EAGAIN and changes nothing, so no number is used (page of fork)
abbrev pub FullForkRefused : Type 0
FullForkRefused = (bounds : Bounds) (w : World) (process : ℕ) → is_full w ≡ true →
    (outcome_of bounds w process call.Fork ≡ Replied (Error EAGAIN)) × (before_sweep bounds w process call.Fork ≡ w)

-- the open file description that a descriptor of a process leads to, with its offset, if it is open (XBD 3, Open File Description)
abbrev pub description_at : World → ℕ → ℤ → Option Description
description_at w process fd = option_map (λ o. o.description) (opened w process fd)

-- a descriptor of one process and one of another lead to this description
pub record BothSee (w : World) (p : ℕ) (fd : ℤ) (q : ℕ) (to : ℤ) (description : Description) : Type 0 where
  pub first : description_at w p fd ≡ Some description
  pub second : description_at w q to ≡ Some description

-- two descriptors that lead to one description, of whatever processes, see it alike, and where its offset is moved or its flags are
-- set both see the new ones (XBD 3, File Offset; pages of fork, dup and fcntl)
abbrev pub SharedIsSeen : Type 0
SharedIsSeen = (w : World) (p q : ℕ) (fd to : ℤ) (o : OpenDescriptor) → opened w p fd ≡ Some o → number_of w q to ≡ Some o.number →
    BothSee w p fd q to o.description × ((edit : DescriptionEdit) → BothSee (with_edit w o.number edit) p fd q to (described edit o.description))

-- an attach of a child that waits for its connection gives it that and changes nothing else, where the world was its own sweep, as
-- it is in a history (own)
abbrev pub AttachConnects : Type 0
AttachConnects = (bounds : Bounds) (w : World) (process : ℕ) → sweep w ≡ w → awaits (slot w.processes process) ≡ true →
    step bounds w process act.Attach ≡ Some (record { world = record w { processes = edited process with_connection w.processes }; outcome = Replied Done })

-- an attach of any other number is ESRCH and changes nothing (own)
abbrev pub OtherAttachRefused : Type 0
OtherAttachRefused = (bounds : Bounds) (w : World) (process : ℕ) → sweep w ≡ w → awaits (slot w.processes process) ≡ false →
    step bounds w process act.Attach ≡ Some (record { world = w; outcome = Replied (Error ESRCH) })

-- a process is gone, the others, all names and whether the run is closed are as they were, and of the descriptions just those stay, as
-- they were, that a descriptor of another process refers to, and of the files those with a name or such a description
pub record AfterExit (w v : World) (process : ℕ) : Type 0 where
  pub gone : slot v.processes process ≡ None
  pub others : (other : ℕ) → other ≢ process → slot v.processes other ≡ slot w.processes other
  pub all : length v.processes ≡ length w.processes
  pub names : v.names ≡ w.names
  pub closed : v.closed ≡ w.closed
  pub descriptions : (number : ℕ) → slot v.descriptions number ≡
      (if is_referred (slice_set w.processes process None) number then slot w.descriptions number else None)
  pub files : (number : ℕ) → slot v.files number ≡ (if is_wanted w.names v.descriptions number then without_gone_pipe v.descriptions
      (slot w.files number) else None)

-- an exit that is a step replies Done, ends its process and frees what only that process had open (page of exit)
abbrev pub ExitFrees : Type 0
ExitFrees = (bounds : Bounds) (w : World) (process : ℕ) (s : Stepped) → step bounds w process act.Exit ≡ Some s →
    (s.outcome ≡ Replied Done) × AfterExit w s.world process

-- a closing of a run that is not closed closes it and changes nothing else, where the world was its own sweep (own)
abbrev pub ClosingCloses : Type 0
ClosingCloses = (bounds : Bounds) (w : World) → sweep w ≡ w → w.closed ≡ false →
    step bounds w HOUSE act.CloseRun ≡ Some (record { world = record w { closed = true }; outcome = Replied Done })

-- and in a run that is closed no closing is a step (own)
abbrev pub ClosedOnce : Type 0
ClosedOnce = (bounds : Bounds) (w : World) (actor : ℕ) → w.closed ≡ true → step bounds w actor act.CloseRun ≡ None
