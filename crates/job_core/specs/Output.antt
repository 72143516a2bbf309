-- The lines of a run, and what it says that a front of them is written (own).
use Rattle.std.specs.Prelude.{◌≡◌, ℕ, ◌+◌, ◌*◌, ◌≤◌, ◌⊎◌, List, ◌++◌, length}
use Rattle.std.specs.List.{flat_map}
use Rattle.std.specs.Io.KnownBytes.{Appends}
use Rattle.logged_streams.specs.Streams.{IsBroken, LoggedWriterState, Writes}
use Rattle.logged_streams.specs.declared.stream_log.TheConstants.{INTERRUPTIONS_MAX}
use Rattle.posix_model.specs.Turns.{bytes_in, bytes_out}
use Rattle.script_text.specs.Lines.{record_line, refused_line, still_line, totals_line}
use Rattle.record_book.specs.Seat.{Receipted}
use Rattle.record_book.specs.Book.{BookState}
use Rattle.script_run.specs.declared.told.ScriptAnswer.{ScriptAnswer}
use Rattle.script_run.specs.declared.told.ScriptAnswer.TheVariants.{Recorded, Closed, Still, Refused}
use Rattle.job_core.specs.declared.job_end.JobEnd.{JobEnd}
use Rattle.job_core.specs.declared.job_end.JobEnd.TheVariants as ended

-- the line of a receipt
abbrev pub receipt_line : Receipted → List ℕ
receipt_line receipt = record_line receipt.place receipt.record_is

-- the lines of what is told of an act: one, but a line for each record of a closing
abbrev pub told_line : ScriptAnswer → List ℕ
told_line (Recorded receipt) = receipt_line receipt
told_line (Closed receipts) = flat_map receipt_line receipts.items
told_line (Still actor act) = still_line actor act
told_line (Refused actor act refusal) = refused_line actor act refusal

-- the lines of all that is told
abbrev pub told_lines : List ScriptAnswer → List ℕ
told_lines told = flat_map told_line told

-- the last line of a run: the totals of its book
abbrev pub last_line : BookState → List ℕ
last_line b = totals_line (length b.history) (bytes_in b.limits.bounds b.history) (bytes_out b.limits.bounds b.history)

-- a front of the text was given to a writer, and nothing else, since the writer is broken; there were no more than sixteen writes for each
-- byte, and sixteen more
pub record AppendsFront (old new : LoggedWriterState) (text : List ℕ) : Type 0 where
  pub front : List ℕ
  pub rest : List ℕ
  pub is : text ≡ front ++ rest
  pub appends : Appends old.contents new.contents front
  pub broken : IsBroken new.log
  pub few : new.log.calls ≤ old.log.calls + INTERRUPTIONS_MAX * (length front + 1)

-- a line was written, and the job ends so; or a front of the line was written, or memory ran out before
abbrev pub WritesLine : List ℕ → JobEnd → LoggedWriterState → LoggedWriterState → JobEnd → Type 0
WritesLine line so old new end =
    ((end ≡ so) × Writes old new line) ⊎ (((end ≡ ended.CannotWrite) × AppendsFront old new line) ⊎ ((end ≡ ended.NoMemory) × (new ≡ old)))
