-- A trace of version 1, written as one of version 2 (own).
use Rattle.std.specs.Prelude.{◌≡◌, ◌≢◌, ℕ, ◌+◌, ◌*◌, ◌<◌, ◌≤◌, ◌⊎◌, List, [], ◌++◌, Result, Ok, Err, length, take}
use Rattle.std.specs.Io.KnownBytes.{Appends, Consumes, IsAtEnd}
use Rattle.call_types.specs.declared.act.Record.{Record}
use Rattle.call_types.specs.declared.limits.TheConstants.{RECORD_LENGTH_MAX}
use Rattle.frame_codec.specs.Frames.{AreFrames, IsMalformed, IsShort, IsTooLong}
use Rattle.frame_codec.specs.Records.{SpellsRecord}
use Rattle.frame_codec.specs.Trace.{header_1, header_2, version_1}
use Rattle.logged_streams.specs.Reading.{more_calls}
use Rattle.logged_streams.specs.Streams.{IsBroken, IsReadNoMore, IsWell, LogState, LoggedReaderState, LoggedWriterState}
use Rattle.logged_streams.specs.declared.stream_log.TheConstants.{INTERRUPTIONS_MAX}
use Rattle.trace_writer.specs.declared.migrate.Migrated.{Migrated}
use Rattle.trace_writer.specs.declared.migrate.MigrateFault.{MigrateFault}
use Rattle.trace_writer.specs.declared.migrate.MigrateFault.TheVariants as faults
use Rattle.trace_writer.specs.declared.migrate.TheConstants.{READS_MAX}

-- ---- the old trace

-- bytes that end within the header of version 1
abbrev pub EndsInHeader : List ℕ → Type 0
EndsInHeader bytes = (length bytes < length header_1) × (bytes ≡ take (length bytes) header_1)

-- bytes of which one stands where the header of version 1 has another: so many of them, and no more than the header has, are not its front
abbrev pub HasNoHeader : List ℕ → Type 0
HasNoHeader bytes = (count : ℕ) × (count ≤ length header_1) × (count ≤ length bytes) × (take count bytes ≢ take count header_1)

-- a trace of version 1: its header, the frames of these records, and what is left after them
pub record IsOldTrace (input : List ℕ) (values : List Record) (text left : List ℕ) : Type 0 where
  pub is : input ≡ header_1 ++ (text ++ left)
  pub frames : AreFrames SpellsRecord RECORD_LENGTH_MAX values text

-- what is left begins with a frame at fault: its payload spells no record, or is longer than is allowed
abbrev pub IsAtFault : List ℕ → Type 0
IsAtFault left = IsMalformed SpellsRecord RECORD_LENGTH_MAX left ⊎ IsTooLong RECORD_LENGTH_MAX left

-- ---- the new one

-- what a trace of version 2 is that has these bytes after a header which tells what version 1 tells
abbrev pub new_trace : List ℕ → List ℕ
new_trace body = header_2 version_1 ++ body

-- bytes that end within the old header are written as they are
pub record IsCopied (input written : List ℕ) (records rest : ℕ) : Type 0 where
  pub ends : EndsInHeader input
  pub written_is : written ≡ input
  pub records_are : records ≡ 0
  pub rest_is : rest ≡ length input

-- after the new header all bytes are as they were: the frames of so many records, and what is left, which is no frame yet
pub record IsRewritten (input written : List ℕ) (records rest : ℕ) : Type 0 where
  pub values : List Record
  pub text : List ℕ
  pub left : List ℕ
  pub old : IsOldTrace input values text left
  pub unfinished : IsShort RECORD_LENGTH_MAX left
  pub written_is : written ≡ new_trace (text ++ left)
  pub records_are : records ≡ length values
  pub rest_is : rest ≡ length left

-- all of a trace was written anew, with so many records and so many bytes after them
abbrev pub IsMigrated : List ℕ → List ℕ → ℕ → ℕ → Type 0
IsMigrated input written records rest = IsCopied input written records rest ⊎ IsRewritten input written records rest

-- ---- what has a fault

-- nothing is written of bytes that do not begin with the old header
pub record IsUnheaded (input written : List ℕ) (at : ℕ) : Type 0 where
  pub none : HasNoHeader input
  pub written_is : written ≡ []
  pub at_is : at ≡ 0

-- all frames before one at fault are written, which begins after so many bytes of the old trace
pub record IsWrittenBefore (input written : List ℕ) (at : ℕ) : Type 0 where
  pub values : List Record
  pub text : List ℕ
  pub left : List ℕ
  pub old : IsOldTrace input values text left
  pub fault : IsAtFault left
  pub written_is : written ≡ new_trace text
  pub at_is : at ≡ length header_1 + length text

-- a fault was met at this byte of a trace, and all before it was written anew
abbrev pub IsStopped : List ℕ → List ℕ → ℕ → Type 0
IsStopped input written at = IsUnheaded input written at ⊎ IsWrittenBefore input written at

-- ---- what was cut off

-- the first bytes of a text
pub record IsFront (front all : List ℕ) : Type 0 where
  pub rest : List ℕ
  pub is : all ≡ front ++ rest

-- the first bytes of a new header and whole frames
pub record IsFrontOfFrames (input written : List ℕ) : Type 0 where
  pub values : List Record
  pub text : List ℕ
  pub left : List ℕ
  pub old : IsOldTrace input values text left
  pub front : IsFront written (new_trace text)

-- nothing was written, or the first bytes of a new header and whole frames
abbrev pub IsBegun : List ℕ → List ℕ → Type 0
IsBegun input written = (written ≡ []) ⊎ IsFrontOfFrames input written

-- the first bytes were written of what is written of all of a trace
pub record IsCutOff (input written : List ℕ) : Type 0 where
  pub all : List ℕ
  pub records : ℕ
  pub rest : ℕ
  pub migrated : IsMigrated input all records rest
  pub front : IsFront written all

-- of a frame that is not finished no byte is written before the reader's end was met
abbrev pub IsFrontWritten : LoggedReaderState → List ℕ → List ℕ → Type 0
IsFrontWritten reader input written = IsBegun input written ⊎ IsAtEnd reader.remaining × IsCutOff input written

-- ---- a migration

-- the writer failed after so many bytes
pub record WritesNoMore (reader : LoggedReaderState) (writer : LoggedWriterState) (input written : List ℕ) (sent : ℕ) : Type 0 where
  pub front : IsFrontWritten reader input written
  pub sent_is : sent ≡ length written
  pub broken : IsBroken writer.log

-- why a trace was not migrated, and what was written
abbrev pub Fails : LoggedReaderState → LoggedWriterState → List ℕ → List ℕ → MigrateFault → Type 0
Fails reader writer input written (faults.Malformed at) = IsStopped input written at
Fails reader writer input written faults.Read = IsBegun input written
Fails reader writer input written (faults.Write sent) = WritesNoMore reader writer input written sent
Fails reader writer input written faults.NoMemory = IsBegun input written

-- what became of the bytes that were read
abbrev pub Becomes : LoggedReaderState → LoggedWriterState → List ℕ → List ℕ → Result Migrated MigrateFault → Type 0
Becomes reader writer input written (Ok migrated) = IsMigrated input written migrated.records migrated.rest × IsAtEnd reader.remaining
Becomes reader writer input written (Err fault) = Fails reader writer input written fault

-- there is a read fault only where the reader is read no more; else no read failed
abbrev pub MeetsItsFault : LoggedReaderState → LoggedReaderState → Result Migrated MigrateFault → Type 0
MeetsItsFault from to (Ok migrated) = to.log.failed ≡ from.log.failed
MeetsItsFault from to (Err (faults.Malformed at)) = to.log.failed ≡ from.log.failed
MeetsItsFault from to (Err faults.Read) = IsReadNoMore (more_calls READS_MAX from.log) to.log
MeetsItsFault from to (Err (faults.Write sent)) = to.log.failed ≡ from.log.failed
MeetsItsFault from to (Err faults.NoMemory) = to.log.failed ≡ from.log.failed

-- so many bytes were written, with no more than sixteen writes for each, and at a fault of the writer sixteen more; else no write failed
abbrev pub WritesFew : {A : Type 0} → LogState → LogState → ℕ → Result A MigrateFault → Type 0
WritesFew was is count (Ok done) = IsWell was is count
WritesFew was is count (Err (faults.Malformed at)) = IsWell was is count
WritesFew was is count (Err faults.Read) = IsWell was is count
WritesFew was is count (Err (faults.Write sent)) = is.calls ≤ was.calls + INTERRUPTIONS_MAX * (count + 1)
WritesFew was is count (Err faults.NoMemory) = IsWell was is count

-- a migration: all that was read, all that was written, and what is told of it
pub record Migrates (from to : LoggedReaderState) (was is : LoggedWriterState) (told : Result Migrated MigrateFault) : Type 0 where
  pub input : List ℕ
  pub written : List ℕ
  pub consumes : Consumes from.remaining to.remaining input
  pub appends : Appends was.contents is.contents written
  pub becomes : Becomes to is input written told
  pub met : MeetsItsFault from to told
  pub writes : WritesFew was.log is.log (length written) told
