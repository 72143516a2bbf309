-- What the calls of a race answer, told in the order of their lines.
use Rattle.std.specs.Prelude.{◌≡◌, ℕ, ◌+◌, ◌==◌, List, [], ◌∷◌, ◌++◌, length, map, codes, decimal, Option, None, Some, if◌then◌else◌}
use Rattle.std.specs.List.{All, Contains, filter, slice_get}
use Rattle.std.specs.List.Sorted.{IsStrictlySortedBy}
use Rattle.std.specs.Ordering.{nat_cmp}
use Rattle.std.specs.Cmp.Lexicographic.{slice_cmp}
use Rattle.posix_model.specs.Types.{Outcome, Bounds}
use Rattle.posix_model.specs.declared.world.World.{World}
use Rattle.call_types.specs.declared.act.Act.TheVariants as acts
use Rattle.script_text.specs.Lines.{act_line}
use Rattle.script_text.specs.Answers.{answer_text, answers_text}
use Rattle.race_outcomes.specs.Setups.{lanes_of}
use Rattle.script_text.specs.declared.races.RaceCall.{RaceCall}
use Rattle.race_outcomes.specs.declared.lanes.Lane.{Lane}
use Rattle.race_outcomes.specs.declared.position.Position.{Position}
use Rattle.race_outcomes.specs.declared.positions.Met.{Met}
use Rattle.race_outcomes.specs.declared.tellings.Told.{Told}
use Rattle.race_outcomes.specs.Orders.{IsEnd}
use Rattle.race_outcomes.specs.Outcomes.{IsOutcome}

-- the k-th answer of a process, from 0, where its lane tells one; the first lane of the process counts
abbrev pub answer_of : List Lane → List (List Outcome) → ℕ → ℕ → Option Outcome
answer_of [] told process k = None
answer_of (lane ∷ lanes) [] process k = None
answer_of (lane ∷ lanes) (row ∷ rows) process k = if lane.actor == process then slice_get row k else answer_of lanes rows process k

-- how many of these calls are of a process
abbrev pub made_by : ℕ → List RaceCall → ℕ
made_by process calls = length (filter (λ c. c.process == process) calls)

-- the answers of calls that stand behind others
abbrev pub answers_from : List Lane → List (List Outcome) → List RaceCall → List RaceCall → List (Option Outcome)
answers_from lanes told before [] = []
answers_from lanes told before (c ∷ cs) = answer_of lanes told c.process (made_by c.process before) ∷ answers_from lanes told (before ++ c ∷ []) cs

-- the answers of all calls, in the order of their lines; a call that was never made has none
abbrev pub answers : List RaceCall → List (List Outcome) → List (Option Outcome)
answers calls told = answers_from (lanes_of calls) told [] calls

-- an answer is written as it is asked for, if one is
abbrev pub IsAsked : Option (List ℕ) → Option Outcome → Type 0
IsAsked None answer = Unit {0}
IsAsked (Some text) answer = answer_text answer ≡ text

-- each answer is written as its call asks for it, if it asks
abbrev pub Agrees : List RaceCall → List (Option Outcome) → Type 0
Agrees [] answers = Unit {0}
Agrees (c ∷ cs) [] = Unit {0}
Agrees (c ∷ cs) (a ∷ answers) = IsAsked c.asked a × Agrees cs answers

-- the calls may answer so, as they are asked to, and this is the text of it
abbrev pub IsTold : Bounds → List RaceCall → World → List ℕ → Type 0
IsTold bounds calls world text =
    (told : List (List Outcome)) × IsOutcome bounds (lanes_of calls) world told × Agrees calls (answers calls told) × (text ≡ answers_text (answers calls told))

-- the texts of all that the calls may answer, as they are asked to: each once, in the order of their bytes
pub record AreTold (bounds : Bounds) (calls : List RaceCall) (world : World) (texts : List (List ℕ)) : Type 0 where
  pub sound : All (IsTold bounds calls world) texts
  pub complete : (text : List ℕ) → IsTold bounds calls world text → Contains texts text
  pub rising : IsStrictlySortedBy (slice_cmp nat_cmp) texts

-- the texts that are told
abbrev pub texts : List Told → List (List ℕ)
texts told = map (λ t. t.text.items) told

-- an end stands at the place, where the calls answer as they are asked to, and this is the text of it
pub record IsToldAt (moves : Position → ℕ → Option Position) (met : List (Met Position)) (calls : List RaceCall) (t : Told) : Type 0 where
  pub entry : Met Position
  pub stands : slice_get met t.place ≡ Some entry
  pub end : IsEnd moves entry.position
  pub agrees : Agrees calls (answers calls entry.position.told)
  pub text : t.text.items ≡ answers_text (answers calls entry.position.told)

-- ---- the lines that are printed

-- the line of the n-th outcome, from 0
abbrev pub outcome_line : ℕ → List ℕ → List ℕ
outcome_line n text = codes "outcome " ++ decimal n ++ codes ": " ++ text ++ codes "\n"

-- the lines of outcomes, of which the first is the n-th
abbrev pub outcome_lines : ℕ → List (List ℕ) → List ℕ
outcome_lines n [] = []
outcome_lines n (text ∷ texts) = outcome_line n text ++ outcome_lines (n + 1) texts

-- the line of the n-th call, from 0
abbrev pub race_line : ℕ → RaceCall → List ℕ
race_line n c = codes "race " ++ decimal n ++ codes " " ++ act_line c.process (acts.Call c.call)

-- the lines of calls, of which the first is the n-th
abbrev pub race_lines : ℕ → List RaceCall → List ℕ
race_lines n [] = []
race_lines n (c ∷ cs) = race_line n c ++ race_lines (n + 1) cs

-- the last line: how many outcomes there are, and how many positions were met
abbrev pub counts_line : ℕ → ℕ → List ℕ
counts_line outcomes states = codes "outcomes " ++ decimal outcomes ++ codes " states " ++ decimal states ++ codes "\n"
