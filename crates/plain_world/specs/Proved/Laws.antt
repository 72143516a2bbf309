-- What holds of steps, and so of histories.
use Rattle.std.specs.Prelude.{◌≡◌, ◌≢◌, ℕ, ◌≤◌, ◌<◌, true, false, List, [], ◌∷◌, ◌++◌, Option, None, Some, length, is_some}
use Rattle.plain_world.specs.Proved.Types.{Act, Record, Errno, Bounds, World, Description, Decided, OFFSET_MAX, EAGAIN, Replied, Number, Error}
use Rattle.call_types.specs.declared.act.Act.TheVariants as act
use Rattle.slots.specs.Slots.{slot, lowest}
use Rattle.posix_model.specs.Proved.Numbers.{IsLowest}
use Rattle.process_table.specs.Proved.Joined.{new_process}
use Rattle.posix_model.specs.Change.{changed}
use Rattle.posix_model.specs.Join.{is_full}
use Rattle.posix_model.specs.Sweep.{sweep}
use Rattle.posix_model.specs.Step.{given, comes_to, Stepped, outcome_of, step}
use Rattle.posix_model.specs.Proved.Sound.{is_resume, number_at, data_of, WithinLimits}
use Rattle.posix_model.specs.Turns.{took}
use Rattle.posix_model.specs.History.{world_of, legal}

-- a step that records an error leaves a world that is its own sweep exactly as it was (own)
abbrev pub RefusedStepKeepsWorld : Type 0
RefusedStepKeepsWorld = (bounds : Bounds) (w : World) (actor : ℕ) (act : Act) (s : Stepped) (error : Errno) → is_resume act ≡ false → sweep w ≡ w →
    step bounds w actor act ≡ Some s → s.outcome ≡ Replied (Error error) → s.world ≡ w

-- and so it leaves every world of a history (own)
abbrev pub RefusedNextKeepsWorld : Type 0
RefusedNextKeepsWorld = (bounds : Bounds) (h : List Record) (actor : ℕ) (act : Act) (s : Stepped) (error : Errno) → is_resume act ≡ false →
    step bounds (world_of bounds h) actor act ≡ Some s → s.outcome ≡ Replied (Error error) → s.world ≡ world_of bounds h

-- there is one more process, new and live, and it has the next number; the others are as they were
pub record Joins (w : World) (s : Stepped) : Type 0 where
  pub number : s.outcome ≡ Replied (Number (length w.processes))
  pub processes : s.world.processes ≡ w.processes ++ Some new_process ∷ []

-- a join adds a process where there is room (own)
abbrev pub JoinAdds : Type 0
JoinAdds = (bounds : Bounds) (w : World) (actor : ℕ) (s : Stepped) → is_full w ≡ false → step bounds w actor act.Join ≡ Some s → Joins w s

-- and is refused, with nothing changed, where there is none (own)
abbrev pub FullJoinRefused : Type 0
FullJoinRefused = (bounds : Bounds) (w : World) (actor : ℕ) (s : Stepped) → is_full w ≡ true → step bounds w actor act.Join ≡ Some s →
    s ≡ record { world = sweep w; outcome = Replied (Error EAGAIN) }

-- the lowest free descriptor is the least one that is free (XSH 2.14, File Descriptor Allocation)
abbrev pub LowestIsLeast : Type 0
LowestIsLeast = (slots : List (Option ℕ)) (n : ℕ) → lowest slots ≡ Some n → IsLowest slots n

-- and where there is none, every one is taken
abbrev pub NoLowestIsFull : Type 0
NoLowestIsFull = (slots : List (Option ℕ)) (m : ℕ) → lowest slots ≡ None → m < length slots → is_some (slot slots m) ≡ true

-- an act leaves each open file description that is there, with its offset, but the one that its own descriptor leads to (XBD 3, File Offset)
abbrev pub OffsetsAreApart : Type 0
OffsetsAreApart = (bounds : Bounds) (w : World) (actor : ℕ) (act : Act) (d : Decided) (number : ℕ) → comes_to bounds w actor act ≡ Some d →
    number_at w actor act ≢ Some number → number < length w.descriptions → slot (changed w (given act) d.change).descriptions number
    ≡ slot w.descriptions number

-- and what of the others is there after the step was there before, as it is (XBD 3, File Offset)
abbrev pub OffsetsStayApart : Type 0
OffsetsStayApart = (bounds : Bounds) (w : World) (actor : ℕ) (act : Act) (s : Stepped) (number : ℕ) (description : Description) →
    step bounds w actor act ≡ Some s →
    number_at w actor act ≢ Some number → number < length w.descriptions → slot s.world.descriptions number ≡ Some description →
    slot w.descriptions number ≡ Some description

-- a step takes no more bytes than its call gives, or the call that its process waits in (page of write)
abbrev pub TakesFew : Type 0
TakesFew = (bounds : Bounds) (w : World) (actor : ℕ) (act : Act) (s : Stepped) → step bounds w actor act ≡ Some s →
    took w (record { actor = actor; act = act; outcome = s.outcome }) ≤ length (data_of w actor act)

-- a step goes past no limit, where the size limit is at most the greatest offset (own)
abbrev pub StepKeepsLimits : Type 0
StepKeepsLimits = (bounds : Bounds) (w : World) (actor : ℕ) (act : Act) (s : Stepped) → bounds.file_size ≤ OFFSET_MAX → WithinLimits bounds w →
    step bounds w actor act ≡ Some s → WithinLimits bounds s.world

-- so no history does, legal or not (own)
abbrev pub LimitsHold : Type 0
LimitsHold = (bounds : Bounds) (h : List Record) → bounds.file_size ≤ OFFSET_MAX → WithinLimits bounds (world_of bounds h)

-- a record has the outcome that the step gives in the world of the records before it
abbrev pub IsAnswered : Bounds → List Record → Record → Type 0
IsAnswered bounds before r = outcome_of bounds (world_of bounds before) r.actor r.act ≡ Some r.outcome

-- in a legal history every record is answered so, wherever it stands (own)
abbrev pub LegalIsAnswered : Type 0
LegalIsAnswered = (bounds : Bounds) (before rest : List Record) (r : Record) → legal bounds (before ++ r ∷ rest) → IsAnswered bounds before r

-- and a history in which every record is answered so is legal (own)
abbrev pub AnsweredIsLegal : Type 0
AnsweredIsLegal = (bounds : Bounds) (h : List Record) → ((before rest : List Record) (r : Record) → h ≡ before ++ r ∷ rest → IsAnswered bounds before r) →
    legal bounds h
