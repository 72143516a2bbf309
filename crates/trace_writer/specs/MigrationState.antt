-- What is held of a migration, and what was taken and written (own).
use Rattle.std.specs.Prelude.{◌≡◌, ℕ, ◌≤◌, ◌<◌, nat_lt, List, [], ◌++◌, Err, length, take, if◌then◌else◌}
use Rattle.std.specs.Io.KnownBytes.{Appends}
use Rattle.call_types.specs.declared.act.Record.{Record}
use Rattle.call_types.specs.declared.limits.TheConstants.{RECORD_LENGTH_MAX}
use Rattle.frame_codec.specs.Decoding.{DecoderState}
use Rattle.frame_codec.specs.Given.{HasGiven}
use Rattle.frame_codec.specs.Records.{SpellsRecord}
use Rattle.frame_codec.specs.Trace.{header_1, header_2, version_1}
use Rattle.frame_codec.specs.declared.trace.TheConstants.{HEADER_1_LENGTH}
use Rattle.logged_streams.specs.Streams.{LoggedReaderState, LoggedWriterState, Writes}
use Rattle.trace_writer.specs.Migrations.{Fails, WritesFew}
use Rattle.trace_writer.specs.declared.migrate.Migrated.{Migrated}
use Rattle.trace_writer.specs.declared.migrate.MigrateFault.{MigrateFault}
use Rattle.trace_writer.specs.declared.migrate.MigrateFault.TheVariants as faults

-- these bytes are so much of the old header, and those after it, of which there are none before all of the header was met
pub record IsHeaded (met : ℕ) (input body : List ℕ) : Type 0 where
  pub is : input ≡ take met header_1 ++ body
  pub within : met ≤ length header_1
  pub begun : met < length header_1 → body ≡ []

-- how many bytes of the old header were met, what the decoder holds, how many records there are, and how many bytes their frames have
pub record MigrationState : Type 0 where
  pub met : ℕ
  pub decoder : DecoderState
  pub records : ℕ
  pub passed : ℕ

-- the frames with which these bytes begin were passed on
pub record HasPassed (body text : List ℕ) (m : MigrationState) : Type 0 where
  pub values : List Record
  pub given : HasGiven SpellsRecord RECORD_LENGTH_MAX body values m.decoder
  pub text_is : text ≡ given.text
  pub records_are : m.records ≡ length values
  pub passed_is : m.passed ≡ length text

-- what was written of the header, once so much of the old one was met
abbrev pub new_header : ℕ → List ℕ
new_header met = if nat_lt met HEADER_1_LENGTH then [] else header_2 version_1

-- these bytes were taken without a fault, and this was written
pub record IsMigrating (input written : List ℕ) (m : MigrationState) : Type 0 where
  pub body : List ℕ
  pub text : List ℕ
  pub headed : IsHeaded m.met input body
  pub passed : HasPassed body text m
  pub written_is : written ≡ new_header m.met ++ text

-- a fault that is not the reader's
abbrev pub IsOwn : MigrateFault → Type 0
IsOwn faults.Read = ⊥
IsOwn (faults.Malformed at) = Unit {0}
IsOwn (faults.Write sent) = Unit {0}
IsOwn faults.NoMemory = Unit {0}

-- since the writer was so, these bytes were taken, and what is whole of them was written
pub record HasWritten (was : LoggedWriterState) (m : MigrationState) (is : LoggedWriterState) (input : List ℕ) : Type 0 where
  pub written : List ℕ
  pub writes : Writes was is written
  pub migrating : IsMigrating input written m

-- since the writer was so, these bytes were taken, and there is this fault, whatever the reader has left
pub record HasStopped (was is : LoggedWriterState) (input : List ℕ) (fault : MigrateFault) : Type 0 where
  pub written : List ℕ
  pub appends : Appends was.contents is.contents written
  pub few : WritesFew {A = Migrated} was.log is.log (length written) (Err fault)
  pub fails : (reader : LoggedReaderState) → Fails reader is input written fault
  pub is_own : IsOwn fault
