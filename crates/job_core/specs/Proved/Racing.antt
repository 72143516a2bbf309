-- How the outcomes of a race are found and told (own).
use Rattle.std.specs.Prelude.{◌≡◌, ◌≢◌, ◌==◌, ◌<◌, ◌≤◌, ℕ, List, [], ◌++◌, length, Option, None, Some, if◌then◌else◌}
use Rattle.std.specs.List.{All}
use Rattle.call_types.specs.declared.act.Record.{Record}
use Rattle.posix_model.specs.Types.{Bounds}
use Rattle.posix_model.specs.History.{legal, world_of}
use Rattle.script_text.specs.declared.fault.Expected.{Expected}
use Rattle.script_text.specs.declared.races.RaceFault.{RaceFault}
use Rattle.script_text.specs.declared.races.RaceFault.TheVariants as races
use Rattle.race_outcomes.specs.Moves.{move}
use Rattle.race_outcomes.specs.Orders.{MoreOrders}
use Rattle.race_outcomes.specs.Outcomes.{start_of}
use Rattle.race_outcomes.specs.Search.{IsExplored}
use Rattle.race_outcomes.specs.Setups.{lanes_of}
use Rattle.race_outcomes.specs.Tellings.{AreTold, IsToldAt, outcome_line, outcome_lines, texts}
use Rattle.race_outcomes.specs.declared.tellings.Told.{Told}
use Rattle.race_outcomes.specs.declared.setup.Unready.{Unready}
use Rattle.race_outcomes.specs.declared.setup.Unready.TheVariants as unready
use Rattle.job_core.specs.Outcomes.{AreWitnessLines, IsBadLine, IsBadReturn, IsNoRace, IsUnfit, IsTooLarge, IsWitness, IsWritten, LacksOutcome, Tells}
use Rattle.job_core.specs.Replay.{ends_in_return}
use Rattle.job_core.specs.Shown.{shown_lines}
use Rattle.job_core.specs.declared.job_end.JobEnd.{JobEnd}
use Rattle.job_core.specs.declared.job_end.JobEnd.TheVariants as ended
use Rattle.job_core.specs.declared.job_end.Unfit.TheVariants as unfit
use Rattle.job_core.specs.declared.outcomes.Search.{Search}
use Rattle.command_line.specs.declared.form.Form.{Form}
use Rattle.command_line.specs.declared.telling.Telling.{Telling}
use Rattle.command_line.specs.declared.telling.Telling.TheVariants as telling

-- the end that a line of a text is that is no act
abbrev pub end_of_line : List ℕ → (line column : ℕ) → Expected → JobEnd
end_of_line text line column expected = if ends_in_return text line then ended.CarriageReturn line column else ended.BadLine line column expected

-- the end that a fault of a text is that is to be the script of a race
abbrev pub end_of_fault : List ℕ → RaceFault → JobEnd
end_of_fault text (races.BadLine line column expected) = end_of_line text line column expected
end_of_fault text races.NoRace = ended.NoRace
end_of_fault text (races.NoCall line) = ended.BadRace line unfit.NoCall
end_of_fault text (races.BadAnswer line column) = ended.BadAnswer line column
end_of_fault text races.TooLong = ended.TooLong
end_of_fault text races.NoMemory = ended.NoMemory

-- the end that a setup is which cannot be made
abbrev pub end_of_setup : Unready → JobEnd
end_of_setup (unready.Refused line) = ended.BadRace line unfit.Refused
end_of_setup (unready.Waits line) = ended.BadRace line unfit.Waits
end_of_setup unready.NoMemory = ended.NoMemory

-- why the text is no race that can begin, unless memory ran out
abbrev pub IsUnready : Bounds → List ℕ → JobEnd → Type 0
IsUnready bounds text (ended.BadLine line column expected) = IsBadLine line column expected text
IsUnready bounds text (ended.CarriageReturn line column) = IsBadReturn line column text
IsUnready bounds text (ended.BadAnswer line column) = IsNoRace (races.BadAnswer line column) text
IsUnready bounds text ended.NoRace = IsNoRace races.NoRace text
IsUnready bounds text ended.TooLong = IsNoRace races.TooLong text
IsUnready bounds text (ended.BadRace line why) = IsUnfit bounds line why text
IsUnready bounds text ended.NoMemory = Unit {0}
IsUnready bounds text other = ⊥

-- why a search was given up: there are more orders than so many, unless memory ran out
abbrev pub GivesUp : {P : Type 0} → (P → ℕ → Option P) → P → ℕ → JobEnd → Type 0
GivesUp moves start most (ended.TooManyStates told) = (told ≡ most) × MoreOrders moves start most
GivesUp moves start most ended.NoMemory = Unit {0}
GivesUp moves start most other = ⊥

-- why the text is not the script of a race that is searched, unless memory ran out
abbrev pub IsUnsearched : Bounds → ℕ → List ℕ → JobEnd → Type 0
IsUnsearched bounds most text (ended.TooManyStates told) = (told ≡ most) × IsTooLarge bounds most text
IsUnsearched bounds most text other = IsUnready bounds text other

-- a race is searched: what came before it is legal and leads to where it begins, and its positions and what its ends tell are all that there are
pub record IsSearch (search : Search) : Type 0 where
  pub is_legal : legal search.race.limits.bounds search.setup.records
  pub world_is : search.setup.world ≡ world_of search.race.limits.bounds search.setup.records
  pub lanes_are : search.race.lanes ≡ lanes_of search.script.calls
  pub all : IsExplored (move search.race.limits.bounds search.race.lanes) (start_of search.race.lanes search.setup.world) search.explored
  pub told : AreTold search.race.limits.bounds search.script.calls search.setup.world (texts search.told.items)
  pub at : All (IsToldAt (move search.race.limits.bounds search.race.lanes) search.explored.met search.script.calls) search.told.items

-- an end of the race tells so
abbrev pub IsToldIn : Search → Told → Type 0
IsToldIn search told = IsToldAt (move search.race.limits.bounds search.race.lanes) search.explored.met search.script.calls told

-- ---- what is gathered

-- the line of an outcome was gathered, and those of an order that ends so
pub record PutsWitness (search : Search) (form : Form) (number : ℕ) (text : List ℕ) (old new : List ℕ) : Type 0 where
  pub records : List Record
  pub witness : IsWitness search.race.limits.bounds search.script search.setup text records
  pub is : new ≡ old ++ (outcome_line number text ++ shown_lines form records)

-- the lines of these outcomes were gathered, each before those of an order that ends so
pub record PutsWitnesses (search : Search) (form : Form) (texts : List (List ℕ)) (old new : List ℕ) : Type 0 where
  pub lines : List ℕ
  pub each : AreWitnessLines search.race.limits.bounds search.script search.setup form 0 texts lines
  pub is : new ≡ old ++ lines

-- the lines of these outcomes were gathered, with an order for each where a form is given
abbrev pub PutsTold : Search → Option Form → List (List ℕ) → List ℕ → List ℕ → Type 0
PutsTold search None texts old new = new ≡ old ++ outcome_lines 0 texts
PutsTold search (Some form) texts old new = PutsWitnesses search form texts old new

-- the end where so many outcomes are told
abbrev pub end_of_count : ℕ → JobEnd
end_of_count count = if count == 0 then ended.NoneAgrees else ended.Done

-- ---- what is printed

-- how a race is told: each outcome by its line, and where a form is given by an order too
abbrev pub telling_all : Option Form → Telling
telling_all None = telling.Outcomes
telling_all (Some form) = telling.Witnesses form

-- the lines are what is written of all that a race comes to
abbrev pub IsWrittenOf : Search → Telling → List ℕ → Type 0
IsWrittenOf search how lines = IsWritten search.race.limits.bounds search.script search.setup how (texts search.told.items) (length search.explored.met) lines

-- all outcomes are printed, and the job ends by their number
pub record PrintsAll (search : Search) (form : Option Form) (lines : List ℕ) (end : JobEnd) : Type 0 where
  pub written : IsWrittenOf search (telling_all form) lines
  pub end_is : end ≡ end_of_count (length search.told.items)

-- one outcome is printed, which there is
pub record PrintsOne (search : Search) (form : Form) (number : ℕ) (lines : List ℕ) (end : JobEnd) : Type 0 where
  pub written : IsWrittenOf search (telling.Witness number form) lines
  pub there : number < length search.told.items
  pub end_is : end ≡ ended.Done

-- there is no outcome of this number, unless memory ran out
abbrev pub LacksNumber : Search → ℕ → JobEnd → Type 0
LacksNumber search number ended.NoSuchOutcome = length search.told.items ≤ number
LacksNumber search number ended.NoMemory = Unit {0}
LacksNumber search number other = ⊥

-- the job ends so where these outcomes are told
abbrev pub EndsBy : JobEnd → List (List ℕ) → Type 0
EndsBy ended.Done texts = texts ≢ []
EndsBy ended.NoneAgrees texts = texts ≡ []
EndsBy other texts = ⊥

-- what is asked for is printed, and the job ends so
pub record Prints (search : Search) (how : Telling) (lines : List ℕ) (end : JobEnd) : Type 0 where
  pub written : IsWrittenOf search how lines
  pub ends : EndsBy end (texts search.told.items)

-- there is no outcome of the number that is asked for, unless memory ran out
abbrev pub IsUnprinted : Search → Telling → JobEnd → Type 0
IsUnprinted search (telling.Witness number form) end = LacksNumber search number end
IsUnprinted search telling.Outcomes end = end ≡ ended.NoMemory
IsUnprinted search (telling.Witnesses form) end = end ≡ ended.NoMemory

-- what the text is the script of is told so, and the job ends so where that is written
abbrev pub IsToldWith : Bounds → Telling → List ℕ → List ℕ → JobEnd → Type 0
IsToldWith bounds how text output ended.Done = Tells bounds how (λ texts. texts ≢ []) text output
IsToldWith bounds how text output ended.NoneAgrees = Tells bounds how (λ texts. texts ≡ []) text output
IsToldWith bounds how text output other = ⊥

-- why nothing is told, unless memory ran out
abbrev pub IsUntold : Bounds → ℕ → Telling → List ℕ → JobEnd → Type 0
IsUntold bounds most how text ended.NoSuchOutcome = LacksOutcome bounds how text
IsUntold bounds most how text (ended.TooManyStates told) = (told ≡ most) × IsTooLarge bounds most text
IsUntold bounds most how text other = IsUnready bounds text other
