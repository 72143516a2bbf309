-- How a trace is shown, piece by piece (own).
use Rattle.std.specs.Prelude.{◌≡◌, ℕ, ◌+◌, nat_lt, List, ◌++◌, Option, None, Some, length, if◌then◌else◌}
use Rattle.call_types.specs.declared.act.Record.{Record}
use Rattle.call_types.specs.declared.limits.TheConstants.{RECORD_LENGTH_MAX}
use Rattle.frame_codec.specs.Decoding.{told_place}
use Rattle.frame_codec.specs.Given.{HasGiven}
use Rattle.frame_codec.specs.Proved.Laws.{HasEnded}
use Rattle.frame_codec.specs.Records.{SpellsRecord}
use Rattle.frame_codec.specs.declared.decoder.Progress.{Progress}
use Rattle.frame_codec.specs.declared.decoder.Progress.TheVariants as progress
use Rattle.logged_streams.specs.Streams.{LoggedWriterState, Writes}
use Rattle.job_core.specs.Output.{AppendsFront}
use Rattle.job_core.specs.Shown.{lines_from}
use Rattle.job_core.specs.declared.job_end.JobEnd.{JobEnd}
use Rattle.job_core.specs.declared.job_end.JobEnd.TheVariants as ended
use Rattle.job_core.specs.Show.{BeginsWith, BreaksAt}
use Rattle.job_core.specs.ShownState.{ShownState, IsTaken, lines_after}

-- where the fault is in a trace whose header has so many bytes, if it is told of the bytes after the header
abbrev pub fault_at : Progress → ℕ → Option ℕ
fault_at progress.More headed = None
fault_at (progress.Malformed at) headed = Some (told_place (at + headed))
fault_at (progress.TooLong at) headed = Some (told_place (at + headed))

-- how many bytes are left over at the end, by the length of the header where it is whole: those of it, or those that are held
abbrev pub left_over_by : Option ℕ → ShownState → ℕ
left_over_by None t = length t.front
left_over_by (Some headed) t = length t.decoder.held

-- how many bytes are left over at the end
abbrev pub left_over : ShownState → ℕ
left_over t = left_over_by t.headed t

-- how the job ends then
abbrev pub end_with : ℕ → JobEnd
end_with left = if nat_lt 0 left then ended.Rest left else ended.Done

-- what is found in the bytes after a header of this length
abbrev pub BodyGives : ℕ → List ℕ → List Record → ShownState → Option ℕ → Type 0
BodyGives headed body records new None = HasGiven SpellsRecord RECORD_LENGTH_MAX body records new.decoder
BodyGives headed body records new (Some at) = (told : Progress) × HasEnded SpellsRecord RECORD_LENGTH_MAX body records told × (fault_at told headed ≡ Some at)

-- a piece more of the bytes after a header of this length
pub record TakesBody (headed : ℕ) (piece : List ℕ) (old new : ShownState) (text more : List ℕ) (found : Option ℕ) : Type 0 where
  pub added : List Record
  pub text_is : more ≡ text ++ lines_from old.lines added
  pub lines_are : new.lines ≡ lines_after old.lines added
  pub gives : (body : List ℕ) (records : List Record) → HasGiven SpellsRecord RECORD_LENGTH_MAX body records old.decoder →
      BodyGives headed (body ++ piece) (records ++ added) new found

-- what is found in bytes
abbrev pub IsFound : List ℕ → List Record → ShownState → Option ℕ → Type 0
IsFound bytes records new None = IsTaken bytes records new
IsFound bytes records new (Some at) = BreaksAt bytes records at

-- a piece more, after whatever bytes without a fault
pub record TakesPiece (piece : List ℕ) (old new : ShownState) (text more : List ℕ) (found : Option ℕ) : Type 0 where
  pub added : List Record
  pub text_is : more ≡ text ++ lines_from old.lines added
  pub lines_are : new.lines ≡ lines_after old.lines added
  pub finds : (bytes : List ℕ) (records : List Record) → IsTaken bytes records old → IsFound (bytes ++ piece) (records ++ added) new found

-- a piece more, and the lines of its records are written
pub record WritesPiece (piece : List ℕ) (old new : ShownState) (was is : LoggedWriterState) (found : Option ℕ) : Type 0 where
  pub added : List Record
  pub writes : Writes was is (lines_from old.lines added)
  pub lines_are : new.lines ≡ lines_after old.lines added
  pub finds : (bytes : List ℕ) (records : List Record) → IsTaken bytes records old → IsFound (bytes ++ piece) (records ++ added) new found

-- a piece more, and a front of the lines of its records is written
pub record WritesPieceFront (piece : List ℕ) (old : ShownState) (was is : LoggedWriterState) : Type 0 where
  pub added : List Record
  pub front : AppendsFront was is (lines_from old.lines added)
  pub begins : (bytes : List ℕ) (records : List Record) → IsTaken bytes records old → BeginsWith (bytes ++ piece) (records ++ added)

-- what came of a piece
abbrev pub ShowsPiece : List ℕ → ShownState → ShownState → LoggedWriterState → LoggedWriterState → Option JobEnd → Type 0
ShowsPiece piece old new was is None = WritesPiece piece old new was is None
ShowsPiece piece old new was is (Some (ended.Malformed at)) = WritesPiece piece old new was is (Some at)
ShowsPiece piece old new was is (Some ended.CannotWrite) = WritesPieceFront piece old was is
ShowsPiece piece old new was is (Some ended.NoMemory) = is ≡ was
ShowsPiece piece old new was is (Some other) = ⊥
