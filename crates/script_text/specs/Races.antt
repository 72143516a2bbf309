-- The script of a race, as it is read: acts, a line `race`, and calls (own).
use Rattle.std.specs.Prelude.{◌≡◌, ℕ, ◌+◌, ◌++◌, ◌==◌, nat_lt, List, [], ◌∷◌, length, take, drop, codes, Bool, Option, Some, None, Result, Ok, Err, if◌then◌else◌}
use Rattle.std.specs.List.{slice_split}
use Rattle.std.specs.Str.{bytes_eq}
use Rattle.call_types.specs.declared.call.Call.{Call}
use Rattle.call_types.specs.declared.act.ScriptAct.{ScriptAct}
use Rattle.call_types.specs.declared.act.ScriptAct.TheVariants as acts
use Rattle.script_text.specs.Answers.{asked_of}
use Rattle.script_text.specs.Reading.{◌>>=◌, Unread, onto, line_feed}
use Rattle.script_text.specs.ReadingCalls.{BadColumn, reading}
use Rattle.script_text.specs.declared.fault.Expected.{Expected}
use Rattle.script_text.specs.declared.fault.Expected.TheVariants as expect
use Rattle.script_text.specs.declared.script.TheConstants.{SCRIPT_MAX}
use Rattle.script_text.specs.declared.races.SetupAct.{SetupAct}
use Rattle.script_text.specs.declared.races.RaceCall.{RaceCall}
use Rattle.script_text.specs.declared.races.RaceScript.{RaceScript}
use Rattle.script_text.specs.declared.races.RaceFault.{RaceFault}
use Rattle.script_text.specs.declared.races.RaceFault.TheVariants as faults
use Rattle.script_text.specs.declared.races.Part.{Part}
use Rattle.script_text.specs.declared.races.Part.TheVariants as parts

-- ---- a line that is no act

-- what could stand in a part of the script, where in any script this could: before the race also the line `race`, but no close-run, and
-- after it only calls
abbrev pub in_part : Part → Expected → Expected
in_part parts.Setup expect.Actor = expect.ActorOrRace
in_part parts.Race expect.Actor = expect.Process
in_part parts.Race expect.Act = expect.Call
in_part part other = other

-- the act of line n of a part that is read so
abbrev pub act_of : Part → ℕ → Result ScriptAct BadColumn → Result ScriptAct RaceFault
act_of part n (Ok act) = Ok act
act_of part n (Err bad) = Err (faults.BadLine n bad.column (in_part part bad.expected))

-- ---- a line of a call

-- whether an answer is asked for here, by ` = `
abbrev pub opens_answer : List ℕ → Bool
opens_answer text = bytes_eq (take 3 text) (codes " = ")

-- what stands before the first ` = ` of a line, and what after it, where there is one
abbrev pub cut_answer : List ℕ → List ℕ × Unread
cut_answer [] = ([], None)
cut_answer (c ∷ cs) = if opens_answer (c ∷ cs) then ([], Some (drop 3 (c ∷ cs))) else onto c (cut_answer cs)

-- the column where the answer begins that stands after a call and ` = `
abbrev pub answer_column : List ℕ → ℕ
answer_column before = length before + 4

-- what line n asks for, where it is known whether what stands behind the call is an answer
abbrev pub known_answer : ℕ → List ℕ → Option (Option (List ℕ)) → Result (Option (List ℕ)) RaceFault
known_answer n before None = Err (faults.BadAnswer n (answer_column before))
known_answer n before (Some asked) = Ok asked

-- what is asked for in line n behind a call, if anything
abbrev pub asked_at : ℕ → List ℕ → Unread → Result (Option (List ℕ)) RaceFault
asked_at n before None = Ok None
asked_at n before (Some text) = known_answer n before (asked_of text)

-- the process and the call of an act that is a call
abbrev pub as_call : ScriptAct → Option (ℕ × Call)
as_call (acts.Call process call) = Some (process, call)
as_call other = None

-- the call of line n, with what is asked for; an act that is none is told first
abbrev pub call_of : ℕ → Result (Option (List ℕ)) RaceFault → Option (ℕ × Call) → Result RaceCall RaceFault
call_of n asked None = Err (faults.NoCall n)
call_of n (Ok asked) (Some made) = Ok (record { line = n; process = made.0; call = made.1; asked = asked })
call_of n (Err fault) (Some made) = Err fault

-- the call of line n, and what is asked for behind it. Where several things are wrong, the call is told first
abbrev pub call_line : ℕ → List ℕ → Result RaceCall RaceFault
call_line n line = act_of parts.Race n (reading (cut_answer line).0) >>= λ act. call_of n (asked_at n (cut_answer line).0 (cut_answer line).1) (as_call act)

-- one value as a list, where it is read
abbrev pub alone : {A : Type 0} → Result A RaceFault → Result (List A) RaceFault
alone (Ok x) = Ok (x ∷ [])
alone (Err fault) = Err fault

-- values before those that follow, where these are read
abbrev pub followed : {A : Type 0} → List A → Result (List A) RaceFault → Result (List A) RaceFault
followed xs (Ok others) = Ok (xs ++ others)
followed xs (Err fault) = Err fault

-- the calls of line n: an empty line has none
abbrev pub line_calls : ℕ → List ℕ → Result (List RaceCall) RaceFault
line_calls n [] = Ok []
line_calls n (c ∷ cs) = alone (call_line n (c ∷ cs))

-- the calls of lines that begin with line n, or the first fault
abbrev pub lines_calls : ℕ → List (List ℕ) → Result (List RaceCall) RaceFault
lines_calls n [] = Ok []
lines_calls n (line ∷ lines) = line_calls n line >>= λ calls. followed calls (lines_calls (n + 1) lines)

-- ---- the lines before

-- the act of line n of a setup
abbrev pub setup_line : ℕ → Result ScriptAct RaceFault → Result (List SetupAct) RaceFault
setup_line n (Ok act) = Ok (record { line = n; act = act } ∷ [])
setup_line n (Err fault) = Err fault

-- the acts of line n: an empty line has none
abbrev pub line_setup : ℕ → List ℕ → Result (List SetupAct) RaceFault
line_setup n [] = Ok []
line_setup n (c ∷ cs) = setup_line n (act_of parts.Setup n (reading (c ∷ cs)))

-- a race with nothing before its calls
abbrev pub race_of : Result (List RaceCall) RaceFault → Result RaceScript RaceFault
race_of (Ok calls) = Ok (record { setup = []; calls = calls })
race_of (Err fault) = Err fault

-- a race with these acts before
abbrev pub with_setup : List SetupAct → Result RaceScript RaceFault → Result RaceScript RaceFault
with_setup acts (Ok race) = Ok (record { setup = acts ++ race.setup; calls = race.calls })
with_setup acts (Err fault) = Err fault

-- the lines that begin with line n: acts, a line `race`, and calls; or the first fault
abbrev pub lines_race : ℕ → List (List ℕ) → Result RaceScript RaceFault
lines_race n [] = Err faults.NoRace
lines_race n (line ∷ lines) = if bytes_eq line (codes "race") then race_of (lines_calls (n + 1) lines) else
    (line_setup n line >>= λ acts. with_setup acts (lines_race (n + 1) lines))

-- the script of a race that a text is, or its first fault; one that is too long has that fault, whatever its lines are
abbrev pub race_script : List ℕ → Result RaceScript RaceFault
race_script text = if nat_lt SCRIPT_MAX (length text) then Err faults.TooLong else lines_race 1 (slice_split (λ c. c == line_feed) text)

-- reading fails so, unless memory ran out
abbrev pub RaceFails : {Y : Type 0} → RaceFault → Result Y RaceFault → Type 0
RaceFails faults.NoMemory read = Unit {0}
RaceFails fault read = read ≡ Err fault

-- what is read is so, seen by view, unless memory ran out
abbrev pub RaceGives : {X Y : Type 0} → (X → Y) → Result X RaceFault → Result Y RaceFault → Type 0
RaceGives view (Ok x) read = read ≡ Ok (view x)
RaceGives view (Err fault) read = RaceFails fault read

-- the script of a race is read from a text, unless memory ran out
abbrev pub ReadsRace : Result RaceScript RaceFault → List ℕ → Type 0
ReadsRace result text = RaceGives (λ race. race) result (race_script text)
