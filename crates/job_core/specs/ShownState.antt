-- What is held of a trace that is shown, and what was shown of it (own).
use Rattle.std.specs.Prelude.{◌≡◌, ℕ, List, Option, None, Some, drop, [], ◌∷◌}
use Rattle.call_types.specs.declared.act.Record.{Record}
use Rattle.call_types.specs.declared.limits.TheConstants.{RECORD_LENGTH_MAX}
use Rattle.frame_codec.specs.Decoding.{DecoderState, fresh}
use Rattle.frame_codec.specs.Given.{HasGiven}
use Rattle.frame_codec.specs.Records.{SpellsRecord}
use Rattle.frame_codec.specs.Trace.{header}
use Rattle.frame_codec.specs.declared.trace.Header.TheVariants.{Short, Headed}
use Rattle.frame_codec.specs.declared.trace.ToldLimits.{ToldLimits}
use Rattle.logged_streams.specs.Streams.{LoggedWriterState, Writes}
use Rattle.job_core.specs.Shown.{LinesState, first_lines, lines_from, next_lines}
use Rattle.job_core.specs.declared.job_end.JobEnd.{JobEnd}
use Rattle.job_core.specs.declared.job_end.JobEnd.TheVariants as ended
use Rattle.command_line.specs.declared.form.Form.{Form}
use Rattle.job_core.specs.Show.{BeginsWith, BreaksAt, WritesAll, WritesSome}

-- the bytes of the header so far, while it is not whole; then how long it is, and what is held of the bytes after it; and how the lines
-- go on
pub record ShownState : Type 0 where
  pub front : List ℕ
  pub headed : Option ℕ
  pub decoder : DecoderState
  pub lines : LinesState

-- before the first byte
abbrev pub fresh_shown : Form → ShownState
fresh_shown form = record { front = []; headed = None; decoder = fresh; lines = first_lines form }

-- these bytes end within a header, so they have no record
pub record IsBegun (bytes : List ℕ) (records : List Record) (t : ShownState) : Type 0 where
  pub ends : header bytes ≡ Short
  pub front_is : t.front ≡ bytes
  pub none : records ≡ []
  pub fresh_is : t.decoder ≡ fresh

-- these bytes begin with a header of this length, and those after it have these whole records
pub record IsUnderWay (headed : ℕ) (bytes : List ℕ) (records : List Record) (t : ShownState) : Type 0 where
  pub told : ToldLimits
  pub begins : header bytes ≡ Headed told headed
  pub given : HasGiven SpellsRecord RECORD_LENGTH_MAX (drop headed bytes) records t.decoder

-- these bytes were taken, without a fault, by the length of their header where it is whole
abbrev pub IsTakenBy : Option ℕ → List ℕ → List Record → ShownState → Type 0
IsTakenBy None bytes records t = IsBegun bytes records t
IsTakenBy (Some headed) bytes records t = IsUnderWay headed bytes records t

-- these bytes were taken, without a fault, and have these whole records
abbrev pub IsTaken : List ℕ → List Record → ShownState → Type 0
IsTaken bytes records t = IsTakenBy t.headed bytes records t

-- after the next records
abbrev pub lines_after : LinesState → List Record → LinesState
lines_after s [] = s
lines_after s (r ∷ rs) = lines_after (next_lines s r) rs

-- these bytes were taken since the trace was fresh, and the lines of their records were written
pub record HasShown (first : ShownState) (was : LoggedWriterState) (t : ShownState) (is : LoggedWriterState) (bytes : List ℕ) : Type 0 where
  pub records : List Record
  pub fresh_first : first ≡ fresh_shown first.lines.form
  pub taken : IsTaken bytes records t
  pub lines_are : t.lines ≡ lines_after first.lines records
  pub writes : Writes was is (lines_from first.lines records)

-- no more is shown of these bytes, since the job has ended so
abbrev pub HasStopped : ShownState → LoggedWriterState → LoggedWriterState → List ℕ → JobEnd → Type 0
HasStopped first was is bytes (ended.Malformed at) = WritesAll first.lines.form was is (λ records. BreaksAt bytes records at)
HasStopped first was is bytes ended.CannotWrite = WritesSome first.lines.form was is (λ records. BeginsWith bytes records)
HasStopped first was is bytes ended.NoMemory = WritesAll first.lines.form was is (λ records. BeginsWith bytes records)
HasStopped first was is bytes other = ⊥
