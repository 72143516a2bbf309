-- What a replay writes, and what its end says (own).
use Rattle.std.specs.Prelude.{◌≡◌, ◌==◌, ℕ, ◌-◌, ◌≤◌, nat_lt, Bool, true, false, ◌&&◌, ◌||◌, List, [], ◌∷◌, ◌++◌, Option, Result, Err, IfSome, length, slice_index_or, if◌then◌else◌}
use Rattle.call_types.specs.declared.act.ScriptAct.{ScriptAct}
use Rattle.call_types.specs.declared.limits.Limits.{Limits}
use Rattle.logged_streams.specs.Streams.{LoggedWriterState, Writes}
use Rattle.posix_model.specs.History.{legal}
use Rattle.script_text.specs.Spellings.{SpellsScript}
use Rattle.script_text.specs.ReadingScripts.{script}
use Rattle.script_text.specs.declared.fault.Expected.{Expected}
use Rattle.script_text.specs.declared.fault.Expected.TheVariants as expect
use Rattle.script_text.specs.declared.fault.ScriptFault.{ScriptFault}
use Rattle.script_text.specs.declared.fault.ScriptFault.TheVariants as faults
use Rattle.script_text.specs.declared.script.TheConstants.{SCRIPT_MAX}
use Rattle.text_forms.specs.Scripts.{hash, plain_script, quote, source_column, strung}
use Rattle.text_forms.specs.declared.scripts.Lines.TheVariants as lines
use Rattle.record_book.specs.Book.{BookState, new_book}
use Rattle.script_run.specs.Runs.{RunTells, Seats}
use Rattle.script_run.specs.declared.told.ScriptAnswer.{ScriptAnswer}
use Rattle.job_core.specs.Output.{AppendsFront, last_line, told_lines}
use Rattle.job_core.specs.declared.job_end.JobEnd.{JobEnd}
use Rattle.job_core.specs.declared.job_end.JobEnd.TheVariants as ended
use Rattle.command_line.specs.declared.spelling.Spelling.{Spelling}
use Rattle.command_line.specs.declared.spelling.Spelling.TheVariants as spelling

-- ---- how a script and its lines are spelled

-- acts are spelled by a text in this spelling; one with comments and strings spells what the plain script for which it stands spells
abbrev pub Spells : Spelling → List ScriptAct → List ℕ → Type 0
Spells spelling.Plain acts text = SpellsScript acts text
Spells spelling.Text acts text = (length text ≤ SCRIPT_MAX) × SpellsScript acts (plain_script text)

-- what is read of a text in this spelling: its acts, or its first fault
abbrev pub read_in : Spelling → List ℕ → Result (List ScriptAct) ScriptFault
read_in spelling.Plain text = script text
read_in spelling.Text text = if nat_lt SCRIPT_MAX (length text) then Err faults.TooLong else script (plain_script text)

-- lines as they are written in this spelling
abbrev pub lines_in : Spelling → List ℕ → List ℕ
lines_in spelling.Plain output = output
lines_in spelling.Text output = strung lines.Records output

-- the column in the text of a byte of the plain script
abbrev pub column_in : Spelling → List ℕ → ℕ → ℕ → ℕ
column_in spelling.Plain text line column = column
column_in spelling.Text text line column = source_column text line column

-- ---- what was written

-- the output is the lines of what is told of the acts in a new book, and the line of totals; the book's records are a run of
-- the model
pub record IsOutput (limits : Limits) (acts : List ScriptAct) (output : List ℕ) : Type 0 where
  pub told : List ScriptAnswer
  pub book : BookState
  pub seats : Seats
  pub runs : RunTells (new_book limits) book [] seats acts told
  pub is_legal : legal limits.bounds book.history
  pub output_is : output ≡ told_lines told ++ last_line book

-- such an output was written in this spelling, and nothing else
abbrev pub RunsActs : Limits → Spelling → List ScriptAct → LoggedWriterState → LoggedWriterState → Type 0
RunsActs limits how acts old new = (output : List ℕ) × IsOutput limits acts output × Writes old new (lines_in how output)

-- a front of such an output was written, and nothing else
abbrev pub WritesPartly : Limits → Spelling → List ScriptAct → LoggedWriterState → LoggedWriterState → Type 0
WritesPartly limits how acts old new = (output : List ℕ) × IsOutput limits acts output × AppendsFront old new (lines_in how output)

-- the text is a script, and the output of its acts was written, and nothing else
abbrev pub WritesReplay : Limits → Spelling → LoggedWriterState → LoggedWriterState → List ℕ → Type 0
WritesReplay limits how old new text = (acts : List ScriptAct) × Spells how acts text × RunsActs limits how acts old new

-- the text is a script, and a front of the output of its acts was written, and nothing else
abbrev pub WritesReplayFront : Limits → Spelling → LoggedWriterState → LoggedWriterState → List ℕ → Type 0
WritesReplayFront limits how old new text = (acts : List ScriptAct) × Spells how acts text × WritesPartly limits how acts old new

-- ---- what is told of a fault

-- the end that a fault of a script is
abbrev pub end_of_fault : ScriptFault → JobEnd
end_of_fault (faults.BadLine line column expected) = ended.BadLine line column expected
end_of_fault faults.TooLong = ended.TooLong
end_of_fault faults.NoMemory = ended.NoMemory

-- what is left of a text from a line on, which has so many lines before it
abbrev pub from_line : List ℕ → ℕ → List ℕ
from_line [] before = []
from_line (byte ∷ bytes) before = if before == 0 then byte ∷ bytes else from_line bytes (if byte == 10 then before - 1 else before)

-- the byte before the next end of a line, where the byte before these is this one
abbrev pub last_of_line : ℕ → List ℕ → ℕ
last_of_line last [] = last
last_of_line last (byte ∷ bytes) = if byte == 10 then last else last_of_line byte bytes

-- a line, counted from 1, ends in a carriage return
abbrev pub ends_in_return : List ℕ → ℕ → Bool
ends_in_return text line = last_of_line 0 (from_line text (line - 1)) == 13

-- the byte at a line and column of a text, which count from 1; 0 for none
abbrev pub byte_at : List ℕ → ℕ → ℕ → ℕ
byte_at text line column = slice_index_or (from_line text (line - 1)) (column - 1) 0

-- data is expected
abbrev pub is_data : Expected → Bool
is_data expect.Data = true
is_data other = false

-- a byte begins a string where data is expected
abbrev pub opens_string : ℕ → Expected → Bool
opens_string byte expected = byte == quote && is_data expected

-- the end that a fault at this byte is: of a comment or string in a plain script, of what begins as a string and is none, or of any other word
abbrev pub end_at : Spelling → (byte line column : ℕ) → Expected → JobEnd
end_at spelling.Plain byte line column expected =
    if byte == hash || opens_string byte expected then ended.NeedsText line column else ended.BadLine line column expected
end_at spelling.Text byte line column expected = if opens_string byte expected then ended.BadString line column else ended.BadLine line column expected

-- the same at a place in a text, and of a line that ends in a carriage return that is told
abbrev pub end_in_line : Spelling → List ℕ → (line column : ℕ) → Expected → JobEnd
end_in_line how text line column expected =
    if ends_in_return text line then ended.CarriageReturn line column else end_at how (byte_at text line column) line column expected

-- the end that a fault of a text is: its column is that in the text
abbrev pub end_in : Spelling → List ℕ → ScriptFault → JobEnd
end_in how text (faults.BadLine line column expected) = end_in_line how text line (column_in how text line column) expected
end_in how text faults.TooLong = ended.TooLong
end_in how text faults.NoMemory = ended.NoMemory

-- the text is no script
abbrev pub IsNoScript : Spelling → List ℕ → Type 0
IsNoScript how text = (acts : List ScriptAct) → Spells how acts text → ⊥

-- the text is no script, by a fault that is told so
pub record Refuses (how : Spelling) (end : JobEnd) (text : List ℕ) : Type 0 where
  pub unspelled : IsNoScript how text
  pub fault : ScriptFault
  pub fault_is : read_in how text ≡ Err fault
  pub told : end ≡ end_in how text fault

-- this holds of a text, which is the input where that is known
abbrev pub OfInput : Option (List ℕ) → (List ℕ → Type 0) → Type 0
OfInput input P = (text : List ℕ) × IfSome input (λ known. text ≡ known) × P text

-- what the end says of the input, where that is known, and of what was written
abbrev pub ReplayEnds : Limits → Spelling → Option (List ℕ) → LoggedWriterState → LoggedWriterState → JobEnd → Type 0
ReplayEnds limits how input old new ended.Done = OfInput input (WritesReplay limits how old new)
ReplayEnds limits how input old new (ended.BadLine line column expected) = IfSome input (Refuses how (ended.BadLine line column expected)) × (new ≡ old)
ReplayEnds limits how input old new (ended.CarriageReturn line column) = IfSome input (Refuses how (ended.CarriageReturn line column)) × (new ≡ old)
ReplayEnds limits how input old new (ended.NeedsText line column) = IfSome input (Refuses how (ended.NeedsText line column)) × (new ≡ old)
ReplayEnds limits how input old new (ended.BadString line column) = IfSome input (Refuses how (ended.BadString line column)) × (new ≡ old)
ReplayEnds limits how input old new ended.TooLong = IfSome input (Refuses how ended.TooLong) × (new ≡ old)
ReplayEnds limits how input old new ended.CannotRead = new ≡ old
ReplayEnds limits how input old new ended.CannotWrite = OfInput input (WritesReplayFront limits how old new)
ReplayEnds limits how input old new ended.NoMemory = new ≡ old
ReplayEnds limits how input old new other = ⊥
