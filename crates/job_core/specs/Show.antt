-- What is written of a trace that is shown, and what its end says (own).
use Rattle.std.specs.Prelude.{◌≡◌, ℕ, ◌+◌, ◌<◌, ◌⊎◌, List, [], ◌++◌, Option, length, drop, IfSome}
use Rattle.call_types.specs.declared.act.Record.{Record}
use Rattle.call_types.specs.declared.limits.TheConstants.{RECORD_LENGTH_MAX}
use Rattle.frame_codec.specs.Decoding.{told_place}
use Rattle.frame_codec.specs.Frames.{AreFrames}
use Rattle.frame_codec.specs.Records.{SpellsRecord}
use Rattle.frame_codec.specs.Trace.{header}
use Rattle.frame_codec.specs.declared.trace.Header.TheVariants.{Unheaded, Short, Headed}
use Rattle.frame_codec.specs.declared.trace.ToldLimits.{ToldLimits}
use Rattle.logged_streams.specs.Streams.{LoggedWriterState, Writes}
use Rattle.audit_core.specs.Trace.{IsAtFault, IsUnfinished}
use Rattle.job_core.specs.Output.{AppendsFront}
use Rattle.job_core.specs.Shown.{shown_lines}
use Rattle.job_core.specs.declared.job_end.JobEnd.{JobEnd}
use Rattle.job_core.specs.declared.job_end.JobEnd.TheVariants as ended
use Rattle.command_line.specs.declared.form.Form.{Form}

-- ---- what a trace's bytes have

-- bytes that begin with a header of so many bytes, which tells this, and after it have the frames of these records, and then this rest
pub record IsRead (bytes : List ℕ) (records : List Record) (rest : List ℕ) : Type 0 where
  pub told : ToldLimits
  pub headed : ℕ
  pub text : List ℕ
  pub begins : header bytes ≡ Headed told headed
  pub is : drop headed bytes ≡ text ++ rest
  pub frames : AreFrames SpellsRecord RECORD_LENGTH_MAX records text

-- bytes that end within a header
pub record EndsEarly (bytes : List ℕ) (records : List Record) (left : ℕ) : Type 0 where
  pub ends : header bytes ≡ Short
  pub none : records ≡ []
  pub all : left ≡ length bytes

-- bytes with these whole records, and after them so many bytes of a frame that is not finished
pub record EndsLater (bytes : List ℕ) (records : List Record) (left : ℕ) : Type 0 where
  pub rest : List ℕ
  pub read : IsRead bytes records rest
  pub unfinished : IsUnfinished rest
  pub left_is : left ≡ length rest

-- bytes without a fault, with these whole records and so many bytes that are left over
abbrev pub IsLeft : List ℕ → List Record → ℕ → Type 0
IsLeft bytes records left = EndsEarly bytes records left ⊎ EndsLater bytes records left

-- bytes that do not begin with a header
pub record LacksHeader (bytes : List ℕ) (records : List Record) (at : ℕ) : Type 0 where
  pub lacks : header bytes ≡ Unheaded
  pub none : records ≡ []
  pub at_is : at ≡ 0

-- bytes with these whole records, and after them a frame at fault; the greatest number stands for the places past it
pub record HasFaultyFrame (bytes : List ℕ) (records : List Record) (at : ℕ) : Type 0 where
  pub rest : List ℕ
  pub read : IsRead bytes records rest
  pub fault : IsAtFault rest
  pub at_is : at ≡ told_place (read.headed + length read.text)

-- bytes with a fault at this place, and these whole records before it
abbrev pub BreaksAt : List ℕ → List Record → ℕ → Type 0
BreaksAt bytes records at = LacksHeader bytes records at ⊎ HasFaultyFrame bytes records at

-- bytes that begin with these records, if there are any
abbrev pub BeginsWith : List ℕ → List Record → Type 0
BeginsWith bytes records = (records ≡ []) ⊎ ((rest : List ℕ) × IsRead bytes records rest)

-- ---- the whole job

-- this holds of the bytes that were read, with which the input begins where it is known
pub record OfFront (input : Option (List ℕ)) (P : List ℕ → Type 0) : Type 0 where
  pub bytes : List ℕ
  pub more : List ℕ
  pub is : IfSome input (λ known. known ≡ bytes ++ more)
  pub holds : P bytes

-- this holds of all bytes of the input, where it is known
pub record OfAll (input : Option (List ℕ)) (P : List ℕ → Type 0) : Type 0 where
  pub bytes : List ℕ
  pub is : IfSome input (λ known. known ≡ bytes)
  pub holds : P bytes

-- of the records of which this holds the lines were written, and nothing else
pub record WritesAll (form : Form) (old new : LoggedWriterState) (P : List Record → Type 0) : Type 0 where
  pub records : List Record
  pub holds : P records
  pub writes : Writes old new (shown_lines form records)

-- a front of their lines was written, and nothing else
pub record WritesSome (form : Form) (old new : LoggedWriterState) (P : List Record → Type 0) : Type 0 where
  pub records : List Record
  pub holds : P records
  pub front : AppendsFront old new (shown_lines form records)

-- what the end says of the input and of what was written
abbrev pub ShowEnds : Form → Option (List ℕ) → LoggedWriterState → LoggedWriterState → JobEnd → Type 0
ShowEnds form input old new ended.Done = OfAll input (λ bytes. WritesAll form old new (λ records. IsLeft bytes records 0))
ShowEnds form input old new (ended.Rest left) = (0 < left) × OfAll input (λ bytes. WritesAll form old new (λ records. IsLeft bytes records left))
ShowEnds form input old new (ended.Malformed at) = OfAll input (λ bytes. WritesAll form old new (λ records. BreaksAt bytes records at))
ShowEnds form input old new ended.CannotRead = OfFront input (λ bytes. WritesAll form old new (λ records. BeginsWith bytes records))
ShowEnds form input old new ended.NoMemory = OfFront input (λ bytes. WritesAll form old new (λ records. BeginsWith bytes records))
ShowEnds form input old new ended.CannotWrite = OfFront input (λ bytes. WritesSome form old new (λ records. BeginsWith bytes records))
ShowEnds form input old new other = ⊥
