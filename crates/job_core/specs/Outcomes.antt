-- What is written of a race, and what the end of that job says (own).
use Rattle.std.specs.Prelude.{◌≡◌, ◌≢◌, ℕ, ◌+◌, ◌≤◌, true, false, List, [], ◌∷◌, ◌++◌, Option, None, Some, Ok, Err, length, IfSome}
use Rattle.std.specs.List.{slice_get}
use Rattle.call_types.specs.declared.act.Record.{Record}
use Rattle.call_types.specs.declared.limits.Limits.{Limits}
use Rattle.logged_streams.specs.Streams.{LoggedWriterState, Writes}
use Rattle.posix_model.specs.Types.{Bounds}
use Rattle.posix_model.specs.History.{legal}
use Rattle.script_text.specs.Answers.{answers_text}
use Rattle.script_text.specs.Races.{race_script}
use Rattle.script_text.specs.declared.fault.Expected.{Expected}
use Rattle.script_text.specs.declared.races.RaceScript.{RaceScript}
use Rattle.script_text.specs.declared.races.RaceFault.{RaceFault}
use Rattle.script_text.specs.declared.races.RaceFault.TheVariants as races
use Rattle.race_outcomes.specs.Moves.{move}
use Rattle.race_outcomes.specs.Orders.{Leads, IsEnd, MoreOrders}
use Rattle.race_outcomes.specs.Outcomes.{start_of}
use Rattle.race_outcomes.specs.Search.{IsExplored}
use Rattle.race_outcomes.specs.Setups.{set_up, absent, lanes_of}
use Rattle.race_outcomes.specs.Tellings.{answers, AreTold, counts_line, outcome_line, outcome_lines, race_lines}
use Rattle.race_outcomes.specs.Witnesses.{records_along}
use Rattle.race_outcomes.specs.declared.position.Position.{Position}
use Rattle.race_outcomes.specs.declared.positions.Explored.{Explored}
use Rattle.race_outcomes.specs.declared.setup.Setup.{Setup}
use Rattle.race_outcomes.specs.declared.setup.Unready.TheVariants as unready
use Rattle.job_core.specs.Output.{AppendsFront}
use Rattle.job_core.specs.Replay.{OfInput, ends_in_return}
use Rattle.job_core.specs.Shown.{shown_lines}
use Rattle.job_core.specs.declared.job_end.JobEnd.{JobEnd}
use Rattle.job_core.specs.declared.job_end.JobEnd.TheVariants as ended
use Rattle.job_core.specs.declared.job_end.Unfit.{Unfit}
use Rattle.job_core.specs.declared.job_end.Unfit.TheVariants as unfit
use Rattle.command_line.specs.declared.form.Form.{Form}
use Rattle.command_line.specs.declared.telling.Telling.{Telling}
use Rattle.command_line.specs.declared.telling.Telling.TheVariants as telling

-- ---- what a race is

-- the text is the script of this race, whose acts before it come to this, and each process that makes a call is attached then
pub record IsReady (bounds : Bounds) (text : List ℕ) (race : RaceScript) (s : Setup) : Type 0 where
  pub reads : race_script text ≡ Ok race
  pub sets_up : set_up bounds race.setup ≡ Ok s
  pub attached : absent s.world race.calls ≡ None

-- where the calls of a race begin
abbrev pub start : RaceScript → Setup → Position
start race s = start_of (lanes_of race.calls) s.world

-- the moves of its processes
abbrev pub moves : Bounds → RaceScript → Position → ℕ → Option Position
moves bounds race = move bounds (lanes_of race.calls)

-- so many positions are reached by its moves
pub record CountsStates (bounds : Bounds) (race : RaceScript) (s : Setup) (states : ℕ) : Type 0 where
  pub explored : Explored Position
  pub all : IsExplored (moves bounds race) (start race s) explored
  pub counted : states ≡ length explored.met

-- the records of one order of all acts and calls, which ends with these answers
pub record IsWitness (bounds : Bounds) (race : RaceScript) (s : Setup) (text : List ℕ) (records : List Record) : Type 0 where
  pub order : List ℕ
  pub end : Position
  pub leads : Leads (moves bounds race) (start race s) order end
  pub is_end : IsEnd (moves bounds race) end
  pub tells : answers_text (answers race.calls end.told) ≡ text
  pub records_are : records ≡ s.records ++ records_along bounds (lanes_of race.calls) (start race s) order
  pub is_legal : legal bounds records

-- ---- what is written of it

-- lines of outcomes, each before those of records of one order that ends so
abbrev pub AreWitnessLines : Bounds → RaceScript → Setup → Form → ℕ → List (List ℕ) → List ℕ → Type 0
AreWitnessLines bounds race s form n [] lines = lines ≡ []
AreWitnessLines bounds race s form n (text ∷ texts) lines =
    (records : List Record) × (rest : List ℕ) × IsWitness bounds race s text records × (lines ≡ outcome_line n text ++ (shown_lines form records ++ rest))
    × AreWitnessLines bounds race s form (n + 1) texts rest

-- the lines of calls and outcomes, and the last one
pub record WritesTexts (bounds : Bounds) (race : RaceScript) (texts : List (List ℕ)) (states : ℕ) (output : List ℕ) : Type 0 where
  pub is : output ≡ race_lines 0 race.calls ++ (outcome_lines 0 texts ++ counts_line (length texts) states)

-- the lines of one order that ends in the outcome of this number
pub record WritesOne (bounds : Bounds) (race : RaceScript) (s : Setup) (form : Form) (number : ℕ) (texts : List (List ℕ)) (output : List ℕ) : Type 0 where
  pub text : List ℕ
  pub stands : slice_get texts number ≡ Some text
  pub records : List Record
  pub witness : IsWitness bounds race s text records
  pub is : output ≡ shown_lines form records

-- the lines of calls, of outcomes with an order for each, and the last one
pub record WritesEach (bounds : Bounds) (race : RaceScript) (s : Setup) (form : Form) (texts : List (List ℕ)) (states : ℕ) (output : List ℕ) : Type 0 where
  pub lines : List ℕ
  pub each : AreWitnessLines bounds race s form 0 texts lines
  pub is : output ≡ race_lines 0 race.calls ++ (lines ++ counts_line (length texts) states)

-- what is written where all outcomes are these
abbrev pub IsWritten : Bounds → RaceScript → Setup → Telling → List (List ℕ) → ℕ → List ℕ → Type 0
IsWritten bounds race s telling.Outcomes texts states output = WritesTexts bounds race texts states output
IsWritten bounds race s (telling.Witness number form) texts states output = WritesOne bounds race s form number texts output
IsWritten bounds race s (telling.Witnesses form) texts states output = WritesEach bounds race s form texts states output

-- all outcomes of the race that the text is, or those that agree with what is asked for, and how many positions there are
pub record HasOutcomes (bounds : Bounds) (text : List ℕ) (race : RaceScript) (s : Setup) (texts : List (List ℕ)) (states : ℕ) : Type 0 where
  pub ready : IsReady bounds text race s
  pub told : AreTold bounds race.calls s.world texts
  pub counts : CountsStates bounds race s states

-- the output tells of all outcomes of the race that the text is, of which this holds
pub record Tells (bounds : Bounds) (how : Telling) (Of : List (List ℕ) → Type 0) (text output : List ℕ) : Type 0 where
  pub race : RaceScript
  pub s : Setup
  pub texts : List (List ℕ)
  pub states : ℕ
  pub has : HasOutcomes bounds text race s texts states
  pub holds : Of texts
  pub written : IsWritten bounds race s how texts states output

-- there are no so many outcomes that one has the number that is asked for
pub record LacksOutcome (bounds : Bounds) (how : Telling) (text : List ℕ) : Type 0 where
  pub race : RaceScript
  pub s : Setup
  pub texts : List (List ℕ)
  pub states : ℕ
  pub has : HasOutcomes bounds text race s texts states
  pub number : ℕ
  pub form : Form
  pub asks : how ≡ telling.Witness number form
  pub few : length texts ≤ number

-- ---- the whole job

-- such an output was written, and nothing else
abbrev pub WritesTold : Bounds → Telling → (List (List ℕ) → Type 0) → LoggedWriterState → LoggedWriterState → List ℕ → Type 0
WritesTold bounds how Of old new text = (output : List ℕ) × Tells bounds how Of text output × Writes old new output

-- a front of such an output was written, and nothing else
abbrev pub WritesToldFront : Bounds → Telling → LoggedWriterState → LoggedWriterState → List ℕ → Type 0
WritesToldFront bounds how old new text = (output : List ℕ) × Tells bounds how (λ texts. Unit {0}) text output × AppendsFront old new output

-- the text is the script of no race, by this fault
abbrev pub IsNoRace : RaceFault → List ℕ → Type 0
IsNoRace fault text = race_script text ≡ Err fault

-- it is none by this line, which does not end in a carriage return
abbrev pub IsBadLine : ℕ → ℕ → Expected → List ℕ → Type 0
IsBadLine line column expected text = IsNoRace (races.BadLine line column expected) text × (ends_in_return text line ≡ false)

-- it is none by a line that does
abbrev pub IsBadReturn : ℕ → ℕ → List ℕ → Type 0
IsBadReturn line column text = (expected : Expected) × IsNoRace (races.BadLine line column expected) text × (ends_in_return text line ≡ true)

-- the text is the script of a race, but its acts before it do not come to an end, or a process is not attached that makes a call
abbrev pub IsUnfit : Bounds → ℕ → Unfit → List ℕ → Type 0
IsUnfit bounds line unfit.NoCall text = IsNoRace (races.NoCall line) text
IsUnfit bounds line unfit.Refused text = (race : RaceScript) × (race_script text ≡ Ok race) × (set_up bounds race.setup ≡ Err (unready.Refused line))
IsUnfit bounds line unfit.Waits text = (race : RaceScript) × (race_script text ≡ Ok race) × (set_up bounds race.setup ≡ Err (unready.Waits line))
IsUnfit bounds line unfit.NotAttached text =
    (race : RaceScript) × (s : Setup) × (race_script text ≡ Ok race) × (set_up bounds race.setup ≡ Ok s) × (absent s.world race.calls ≡ Some line)

-- the text is the script of a race of more orders than so many
pub record IsTooLarge (bounds : Bounds) (most : ℕ) (text : List ℕ) : Type 0 where
  pub race : RaceScript
  pub s : Setup
  pub ready : IsReady bounds text race s
  pub more : MoreOrders (moves bounds race) (start race s) most

-- what the end says of the input, where that is known, and of what was written
abbrev pub OutcomesEnd : Limits → ℕ → Telling → Option (List ℕ) → LoggedWriterState → LoggedWriterState → JobEnd → Type 0
OutcomesEnd limits most how input old new ended.Done = OfInput input (WritesTold limits.bounds how (λ texts. texts ≢ []) old new)
OutcomesEnd limits most how input old new ended.NoneAgrees = OfInput input (WritesTold limits.bounds how (λ texts. texts ≡ []) old new)
OutcomesEnd limits most how input old new ended.NoSuchOutcome = OfInput input (LacksOutcome limits.bounds how) × (new ≡ old)
OutcomesEnd limits most how input old new (ended.BadLine line column expected) = IfSome input (IsBadLine line column expected) × (new ≡ old)
OutcomesEnd limits most how input old new (ended.CarriageReturn line column) = IfSome input (IsBadReturn line column) × (new ≡ old)
OutcomesEnd limits most how input old new (ended.BadAnswer line column) = IfSome input (IsNoRace (races.BadAnswer line column)) × (new ≡ old)
OutcomesEnd limits most how input old new ended.NoRace = IfSome input (IsNoRace races.NoRace) × (new ≡ old)
OutcomesEnd limits most how input old new ended.TooLong = IfSome input (IsNoRace races.TooLong) × (new ≡ old)
OutcomesEnd limits most how input old new (ended.BadRace line why) = IfSome input (IsUnfit limits.bounds line why) × (new ≡ old)
OutcomesEnd limits most how input old new (ended.TooManyStates told) = (told ≡ most) × IfSome input (IsTooLarge limits.bounds most) × (new ≡ old)
OutcomesEnd limits most how input old new ended.CannotRead = new ≡ old
OutcomesEnd limits most how input old new ended.CannotWrite = OfInput input (WritesToldFront limits.bounds how old new)
OutcomesEnd limits most how input old new ended.NoMemory = new ≡ old
OutcomesEnd limits most how input old new other = ⊥
