-- Reading a whole script, line by line (own).
use Rattle.std.specs.Prelude.{ℕ, ◌+◌, ◌==◌, nat_lt, List, [], ◌∷◌, ◌++◌, length, Some, None, Result, Ok, Err, if◌then◌else◌}
use Rattle.std.specs.List.{slice_split}
use Rattle.call_types.specs.declared.act.ScriptAct.{ScriptAct}
use Rattle.script_text.specs.declared.fault.ScriptFault.{ScriptFault}
use Rattle.script_text.specs.declared.fault.ScriptFault.TheVariants as faults
use Rattle.script_text.specs.declared.script.TheConstants.{SCRIPT_MAX}
use Rattle.script_text.specs.Reading.{◌>>=◌, Unread, line_feed}
use Rattle.script_text.specs.ReadingCalls.{BadColumn, reading}

-- a line's act, or the fault with the line's number
abbrev pub numbered : ℕ → Result ScriptAct BadColumn → Result (List ScriptAct) ScriptFault
numbered n (Ok act) = Ok (act ∷ [])
numbered n (Err bad) = Err (faults.BadLine n bad.column bad.expected)

-- the acts of line n: an empty line has none
abbrev pub line_acts : ℕ → List ℕ → Result (List ScriptAct) ScriptFault
line_acts n [] = Ok []
line_acts n (c ∷ cs) = numbered n (reading (c ∷ cs))

-- acts before those that follow, where they are read
abbrev pub followed : List ScriptAct → Result (List ScriptAct) ScriptFault → Result (List ScriptAct) ScriptFault
followed acts (Ok others) = Ok (acts ++ others)
followed acts (Err fault) = Err fault

-- the acts of lines that begin with line n, or the first fault
abbrev pub lines_acts : ℕ → List (List ℕ) → Result (List ScriptAct) ScriptFault
lines_acts n [] = Ok []
lines_acts n (line ∷ lines) = line_acts n line >>= λ acts. followed acts (lines_acts (n + 1) lines)

-- the acts of the lines of a script, which are counted from 1 and end with an LF, which the last may lack; or the first fault
abbrev pub script_acts : List ℕ → Result (List ScriptAct) ScriptFault
script_acts text = lines_acts 1 (slice_split (λ c. c == line_feed) text)

-- the acts of a script, or its first fault; one that is too long has that fault, whatever its lines are
abbrev pub script : List ℕ → Result (List ScriptAct) ScriptFault
script text = if nat_lt SCRIPT_MAX (length text) then Err faults.TooLong else script_acts text

-- the lines of what is left of a script
abbrev pub left_lines : Unread → List (List ℕ)
left_lines None = []
left_lines (Some bytes) = slice_split (λ c. c == line_feed) bytes

-- how many lines are left at most
abbrev pub left_size : Unread → ℕ
left_size None = 0
left_size (Some bytes) = length bytes + 1

-- what is left of a script: its acts or its first fault, and how many lines it has at most; and the line that was read last
pub record Rest : Type 0 where
  pub read : Result (List ScriptAct) ScriptFault
  pub most : ℕ
  pub line : List ℕ

-- the acts of what is left after so many lines, or the first fault
abbrev pub left_acts : ℕ → Unread → Result (List ScriptAct) ScriptFault
left_acts number left = lines_acts (number + 1) (left_lines left)

-- what is left after so many lines, of which this is the last
abbrev pub rest_of : ℕ → Unread → List ℕ → Rest
rest_of number left line = record { read = left_acts number left; most = left_size left; line = line }
