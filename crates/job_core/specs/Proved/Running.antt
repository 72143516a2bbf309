-- How a replay gets on (own).
use Rattle.std.specs.Prelude.{◌≡◌, ℕ, List, ◌++◌, Result, Ok}
use Rattle.call_types.specs.declared.act.ScriptAct.{ScriptAct}
use Rattle.call_types.specs.declared.limits.Limits.{Limits}
use Rattle.posix_model.specs.History.{legal}
use Rattle.script_text.specs.ReadingScripts.{script, followed}
use Rattle.script_text.specs.ReadingResults.{IsReadAs, ScriptFails}
use Rattle.script_text.specs.declared.fault.ScriptFault.{ScriptFault}
use Rattle.record_book.specs.Book.{BookState}
use Rattle.record_book.specs.RunState.{RunState}
use Rattle.script_run.specs.Runs.{RunTells, Seats}
use Rattle.script_run.specs.Fits.{FitsRun, RunsFrom}
use Rattle.script_run.specs.declared.told.ScriptAnswer.{ScriptAnswer}
use Rattle.script_run.specs.declared.told.ScriptAnswer.TheVariants.{Recorded, Closed, Still, Refused}
use Rattle.job_core.specs.Output.{last_line, told_line, told_lines}
use Rattle.job_core.specs.declared.job_end.JobEnd.{JobEnd}
use Rattle.command_line.specs.declared.spelling.Spelling.{Spelling}
use Rattle.job_core.specs.Replay.{IsOutput, end_in, end_of_fault, lines_in, read_in}

-- a record that is told was read from a line as its act
abbrev pub IsToldAsRead : List ℕ → ScriptAnswer → Type 0
IsToldAsRead line (Recorded told) = IsReadAs line told.record_is.actor told.record_is.act
IsToldAsRead line (Closed records) = Unit {0}
IsToldAsRead line (Still actor act) = Unit {0}
IsToldAsRead line (Refused actor act refusal) = Unit {0}

-- one act more was run, and its lines stand after the others
pub record RunsNext (old new : RunState) (act : ScriptAct) (lines more : List ℕ) : Type 0 where
  pub told : ScriptAnswer
  pub runs : RunsFrom old new act told
  pub limits_are : new.limits ≡ old.limits
  pub lines_are : more ≡ lines ++ told_line told

-- acts lead from a book and seats to a book and seats that fit the run after them, and that is what is told of them
pub record AllRunTo (b : BookState) (seats : Seats) (new : RunState) (acts : List ScriptAct) (told : List ScriptAnswer) : Type 0 where
  pub book : BookState
  pub seats_are : Seats
  pub fits : FitsRun book seats_are new
  pub tells : RunTells b book seats seats_are acts told

-- from whatever book and seats that fit the run before them
abbrev pub AllRun : RunState → RunState → List ScriptAct → List ScriptAnswer → Type 0
AllRun old new acts told = (b : BookState) → (seats : Seats) → FitsRun b seats old → AllRunTo b seats new acts told

-- acts that were read were run one after another, and their lines stand after the others; what is left is read as rest
pub record RunsOn (read rest : Result (List ScriptAct) ScriptFault) (old new : RunState) (lines more : List ℕ) : Type 0 where
  pub acts : List ScriptAct
  pub told : List ScriptAnswer
  pub is_read : read ≡ followed acts rest
  pub runs : AllRun old new acts told
  pub limits_are : new.limits ≡ old.limits
  pub lines_are : more ≡ lines ++ told_lines told

-- this is the output of acts from a book and seats on
pub record IsOutputFrom (b : BookState) (seats : Seats) (acts : List ScriptAct) (output : List ℕ) : Type 0 where
  pub told : List ScriptAnswer
  pub book : BookState
  pub seats_are : Seats
  pub runs : RunTells b book seats seats_are acts told
  pub is_legal : legal b.limits.bounds book.history
  pub output_is : output ≡ told_lines told ++ last_line book

-- acts that were read were run to their end, and this is their output, from whatever book and seats that fit the run before them
pub record Gathers (read : Result (List ScriptAct) ScriptFault) (old : RunState) (output : List ℕ) : Type 0 where
  pub acts : List ScriptAct
  pub is_read : read ≡ Ok acts
  pub outputs : (b : BookState) → (seats : Seats) → FitsRun b seats old → IsOutputFrom b seats acts output

-- the text is a script, and this is the output of its acts
abbrev pub RunsScript : Limits → List ℕ → List ℕ → Type 0
RunsScript limits text output = (acts : List ScriptAct) × (script text ≡ Ok acts) × IsOutput limits acts output

-- the end says why what was read gave no output: by its fault, or for want of memory
abbrev pub FailsReading : Result (List ScriptAct) ScriptFault → JobEnd → Type 0
FailsReading read end = (fault : ScriptFault) × (end ≡ end_of_fault fault) × ScriptFails fault read

-- the same of a text
abbrev pub FailsAs : List ℕ → JobEnd → Type 0
FailsAs text end = FailsReading (script text) end

-- the text is a script in this spelling, and these are the lines of its acts
abbrev pub RunsText : Limits → Spelling → List ℕ → List ℕ → Type 0
RunsText limits how text written = (acts : List ScriptAct) × (read_in how text ≡ Ok acts) × (output : List ℕ) × IsOutput limits acts output ×
    (written ≡ lines_in how output)

-- the end tells why it gave none
abbrev pub FailsTold : Spelling → List ℕ → JobEnd → Type 0
FailsTold how text end = (fault : ScriptFault) × (end ≡ end_in how text fault) × ScriptFails fault (read_in how text)
