-- How a migration gets on, piece by piece (own).
use Rattle.std.specs.Prelude.{◌≡◌, ◌≢◌, ℕ, ◌+◌, ◌-◌, ◌*◌, ◌^◌, ◌≤◌, ◌<◌, nat_lt, List, [], ◌++◌, Option, None, Some, Result, Ok, Err, length, take, drop, if◌then◌else◌}
use Rattle.std.specs.Io.KnownBytes.{Appends, IsAtEnd}
use Rattle.call_types.specs.declared.act.Record.{Record}
use Rattle.call_types.specs.declared.limits.TheConstants.{RECORD_LENGTH_MAX}
use Rattle.frame_codec.specs.Decoding.{fresh, told_place}
use Rattle.frame_codec.specs.Frames.{AreFrames}
use Rattle.frame_codec.specs.Records.{SpellsRecord}
use Rattle.frame_codec.specs.Trace.{header_1}
use Rattle.frame_codec.specs.declared.decoder.Progress.{Progress}
use Rattle.frame_codec.specs.declared.decoder.Progress.TheVariants as progress
use Rattle.frame_codec.specs.declared.trace.TheConstants.{HEADER_1_LENGTH, HEADER_2_LENGTH}
use Rattle.logged_streams.specs.Streams.{IsBroken, LoggedReaderState, LoggedWriterState, Writes}
use Rattle.logged_streams.specs.declared.stream_log.TheConstants.{INTERRUPTIONS_MAX}
use Rattle.trace_writer.specs.Migrations.{Becomes, Fails, IsAtFault, IsFront, IsStopped, WritesFew}
use Rattle.trace_writer.specs.declared.migrate.Migrated.{Migrated}
use Rattle.trace_writer.specs.declared.migrate.MigrateFault.{MigrateFault}
use Rattle.trace_writer.specs.declared.migrate.MigrateFault.TheVariants as faults
use Rattle.trace_writer.specs.MigrationState.{MigrationState, HasPassed, new_header, IsMigrating, IsOwn}

-- ---- the old header

-- the front of a piece goes on with the old header, and the rest comes after it
pub record TakesHeader (old new : ℕ) (piece rest : List ℕ) : Type 0 where
  pub front : List ℕ
  pub is : piece ≡ front ++ rest
  pub within : new ≤ length header_1
  pub more : take new header_1 ≡ take old header_1 ++ front
  pub all : new < length header_1 → rest ≡ []

-- so many bytes of a piece are not those of the old header that come next
pub record LacksHeader (old : ℕ) (piece : List ℕ) : Type 0 where
  pub count : ℕ
  pub within : old + count ≤ length header_1
  pub there : count ≤ length piece
  pub differs : take count piece ≢ take count (drop old header_1)

-- ---- what is passed on

-- before the first byte
abbrev pub fresh_migration : MigrationState
fresh_migration = record { met = 0; decoder = fresh; records = 0; passed = 0 }

-- so many bytes come after those that were taken
pub record MayPass (m : MigrationState) (more : ℕ) : Type 0 where
  pub body : List ℕ
  pub text : List ℕ
  pub has : HasPassed body text m
  pub few : length body + more + HEADER_2_LENGTH < 2 ^ 64

-- these frames were passed on, and after them comes one at fault, at this byte
pub record Stops (body text : List ℕ) (at : ℕ) : Type 0 where
  pub values : List Record
  pub left : List ℕ
  pub is : body ≡ text ++ left
  pub frames : AreFrames SpellsRecord RECORD_LENGTH_MAX values text
  pub fault : IsAtFault left
  pub at_is : at ≡ HEADER_1_LENGTH + length text

-- what is found in the bytes after the old header
abbrev pub BodyGives : List ℕ → List ℕ → MigrationState → Option ℕ → Type 0
BodyGives body text new None = HasPassed body text new
BodyGives body text new (Some at) = Stops body text at

-- a piece more of the bytes after the old header, of which this is passed on
pub record PassesOn (piece : List ℕ) (old new : MigrationState) (before after : List ℕ) (found : Option ℕ) : Type 0 where
  pub passed : List ℕ
  pub after_is : after ≡ before ++ passed
  pub gives : (body text : List ℕ) → HasPassed body text old → length body + length piece + HEADER_2_LENGTH < 2 ^ 64 →
      BodyGives (body ++ piece) (text ++ passed) new found

-- how many of so many bytes belong to whole frames, where so many bytes were before them and so many are held
abbrev pub frames_length : Progress → ℕ → ℕ → ℕ → ℕ
frames_length progress.More before long held = long - held
frames_length (progress.Malformed at) before long held = at - before
frames_length (progress.TooLong at) before long held = at - before

-- where a fault is in a trace, from the byte after the header that the decoder tells
abbrev pub fault_at : Progress → Option ℕ
fault_at progress.More = None
fault_at (progress.Malformed at) = Some (told_place (at + HEADER_1_LENGTH))
fault_at (progress.TooLong at) = Some (told_place (at + HEADER_1_LENGTH))

-- ---- the new header

-- what is written of it, if a piece goes on with the old one
abbrev pub header_between : ℕ → ℕ → List ℕ
header_between before met = if nat_lt before HEADER_1_LENGTH then new_header met else []

-- so many bytes may still come
pub record IsUnderWay (m : MigrationState) (more : ℕ) : Type 0 where
  pub input : List ℕ
  pub written : List ℕ
  pub is : IsMigrating input written m
  pub few : length input + more + HEADER_2_LENGTH < 2 ^ 64

-- what is found in these bytes
abbrev pub IsFound : List ℕ → List ℕ → MigrationState → Option ℕ → Type 0
IsFound input written new None = IsMigrating input written new
IsFound input written new (Some at) = IsStopped input written at

-- a piece more, of which this is to be written
abbrev pub TakesPiece : List ℕ → MigrationState → MigrationState → List ℕ → Option ℕ → Type 0
TakesPiece piece old new out found =
    (input written : List ℕ) → IsMigrating input written old → length input + length piece + HEADER_2_LENGTH < 2 ^ 64 →
    IsFound (input ++ piece) (written ++ out) new found

-- how many bytes were written
abbrev pub sent_of : MigrationState → ℕ
sent_of m = if nat_lt m.met HEADER_1_LENGTH then 0 else told_place (m.passed + HEADER_2_LENGTH)

-- what is left over at the end
abbrev pub left_over : MigrationState → List ℕ
left_over m = if nat_lt m.met HEADER_1_LENGTH then take m.met header_1 else m.decoder.held

-- ---- writes and reads

-- a front of these bytes was written, and the writer is broken
pub record BreaksIn (was is : LoggedWriterState) (bytes : List ℕ) (before sent : ℕ) : Type 0 where
  pub front : List ℕ
  pub appends : Appends was.contents is.contents front
  pub first : IsFront front bytes
  pub sent_is : sent ≡ before + length front
  pub broken : IsBroken is.log
  pub few : is.log.calls ≤ was.log.calls + INTERRUPTIONS_MAX * (length front + 1)

-- what a write of these bytes gives, after so many others
abbrev pub WritesOut : {A : Type 0} → LoggedWriterState → LoggedWriterState → List ℕ → ℕ → Result A MigrateFault → Type 0
WritesOut was is bytes before (Ok done) = Writes was is bytes
WritesOut was is bytes before (Err (faults.Write sent)) = BreaksIn was is bytes before sent
WritesOut was is bytes before (Err other) = ⊥

-- what is told is not of the reader
abbrev pub TellsOwn : {A : Type 0} → Result A MigrateFault → Type 0
TellsOwn (Ok done) = Unit {0}
TellsOwn (Err fault) = IsOwn fault

-- what became of a piece: its whole frames were written, or there is a fault
abbrev pub PieceGives : {A : Type 0} → LoggedReaderState → LoggedWriterState → List ℕ → List ℕ → MigrationState → Result A MigrateFault → Type 0
PieceGives reader writer input written m (Ok done) = IsMigrating input written m
PieceGives reader writer input written m (Err fault) = Fails reader writer input written fault

-- a piece more, and what was written of it, whatever the reader has left
pub record WritesPiece {A : Type 0} (piece : List ℕ) (was is : LoggedWriterState) (old new : MigrationState) (found : Result A MigrateFault) : Type 0 where
  pub front : List ℕ
  pub appends : Appends was.contents is.contents front
  pub few : WritesFew was.log is.log (length front) found
  pub own : TellsOwn found
  pub goes : (reader : LoggedReaderState) (input written : List ℕ) → IsMigrating input written old → length input + length piece + HEADER_2_LENGTH < 2 ^ 64
      → PieceGives reader is (input ++ piece) (written ++ front) new found

-- no byte comes after those that were taken, and what was written of those that are left over
pub record WritesRest (was is : LoggedWriterState) (m : MigrationState) (found : Result Migrated MigrateFault) : Type 0 where
  pub front : List ℕ
  pub appends : Appends was.contents is.contents front
  pub few : WritesFew was.log is.log (length front) found
  pub own : TellsOwn found
  pub goes : (reader : LoggedReaderState) (input written : List ℕ) → IsMigrating input written m → length input + HEADER_2_LENGTH < 2 ^ 64 →
      IsAtEnd reader.remaining
      → Becomes reader is input (written ++ front) found
