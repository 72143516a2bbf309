-- What a migration writes, and what its end says (own).
use Rattle.std.specs.Prelude.{◌≡◌, ℕ, ◌+◌, ◌*◌, ◌≤◌, ◌⊎◌, ◌↔◌, List, ◌++◌, Option, length, codes, decimal}
use Rattle.std.specs.Io.KnownBytes.{Appends}
use Rattle.logged_streams.specs.Streams.{IsBroken, LoggedWriterState, Writes}
use Rattle.logged_streams.specs.declared.stream_log.TheConstants.{INTERRUPTIONS_MAX}
use Rattle.audit_core.specs.Verdict.{IsVerdict}
use Rattle.audit_core.specs.declared.verdict.Verdict.{Verdict}
use Rattle.trace_writer.specs.Migrations.{IsBegun, IsCutOff, IsMigrated, IsStopped}
use Rattle.job_core.specs.Output.{AppendsFront}
use Rattle.job_core.specs.Show.{OfAll, OfFront}
use Rattle.job_core.specs.declared.job_end.JobEnd.{JobEnd}
use Rattle.job_core.specs.declared.job_end.JobEnd.TheVariants as ended

-- the line of a migration of so many records and of so many bytes after them
abbrev pub migrated_line : ℕ → ℕ → List ℕ
migrated_line records rest = codes "migrated " ++ (decimal records ++ (codes " rest " ++ (decimal rest ++ codes "\n")))

-- the line of a migration that met a fault at this byte
abbrev pub stopped_line : ℕ → List ℕ
stopped_line at = codes "malformed " ++ (decimal at ++ codes "\n")

-- all of a trace was written anew, and this line tells how many records and bytes that are
pub record IsWhole (bytes written line : List ℕ) : Type 0 where
  pub records : ℕ
  pub rest : ℕ
  pub migrated : IsMigrated bytes written records rest
  pub line_is : line ≡ migrated_line records rest

-- a fault was met, all before it was written anew, and this line tells where it is
pub record IsHalted (bytes written line : List ℕ) : Type 0 where
  pub at : ℕ
  pub stopped : IsStopped bytes written at
  pub line_is : line ≡ stopped_line at

-- what was written of a trace with this line, before an end that tells so
abbrev pub ComesTo : JobEnd → List ℕ → List ℕ → List ℕ → Type 0
ComesTo ended.Done bytes written line = IsWhole bytes written line
ComesTo ended.MalformedTrace bytes written line = IsHalted bytes written line
ComesTo other bytes written line = ⊥

-- the writer of a new trace before and now, and that of the output before and now
pub record Outputs : Type 0 where
  pub was : LoggedWriterState
  pub is : LoggedWriterState
  pub old : LoggedWriterState
  pub new : LoggedWriterState

-- the new trace of these bytes was written, and the line that tells it
pub record Tells (out : Outputs) (end : JobEnd) (bytes : List ℕ) : Type 0 where
  pub written : List ℕ
  pub line : List ℕ
  pub comes : ComesTo end bytes written line
  pub adds : Writes out.was out.is written
  pub writes : Writes out.old out.new line

-- the same, but only a front of the line
pub record TellsFront (out : Outputs) (bytes : List ℕ) : Type 0 where
  pub written : List ℕ
  pub line : List ℕ
  pub end : JobEnd
  pub comes : ComesTo end bytes written line
  pub adds : Writes out.was out.is written
  pub front : AppendsFront out.old out.new line

-- the new trace of these bytes was written, and no line
pub record TellsNothing (out : Outputs) (bytes : List ℕ) : Type 0 where
  pub written : List ℕ
  pub line : List ℕ
  pub end : JobEnd
  pub comes : ComesTo end bytes written line
  pub adds : Writes out.was out.is written
  pub same : out.new ≡ out.old

-- no more of a new trace was written than this says, and no line
pub record Adds (out : Outputs) (P : List ℕ → Type 0) : Type 0 where
  pub written : List ℕ
  pub holds : P written
  pub adds : Writes out.was out.is written
  pub same : out.new ≡ out.old

-- the same, since the writer is broken; there were no more than sixteen writes for each byte, and sixteen more
pub record AddsFront (out : Outputs) (P : List ℕ → Type 0) : Type 0 where
  pub written : List ℕ
  pub holds : P written
  pub adds : Appends out.was.contents out.is.contents written
  pub broken : IsBroken out.is.log
  pub few : out.is.log.calls ≤ out.was.log.calls + INTERRUPTIONS_MAX * (length written + 1)
  pub same : out.new ≡ out.old

-- a front of the new trace was written of the bytes that were read, and no line
abbrev pub BreaksOff : Option (List ℕ) → Outputs → Type 0
BreaksOff input out = OfFront input (λ bytes. Adds out (λ written. IsBegun bytes written))

-- the same, since the writer of the new trace is broken
abbrev pub BreaksDown : Option (List ℕ) → Outputs → Type 0
BreaksDown input out = OfFront input (λ bytes. AddsFront out (λ written. IsBegun bytes written))

-- a front of the new trace was written of all bytes, since its writer is broken, and no line
abbrev pub EndsShort : Option (List ℕ) → Outputs → Type 0
EndsShort input out = OfAll input (λ bytes. AddsFront out (λ written. IsCutOff bytes written))

-- what the end says of the input, of the new trace and of the output
abbrev pub MigrateEnds : Option (List ℕ) → Outputs → JobEnd → Type 0
MigrateEnds input out ended.Done = OfAll input (λ bytes. Tells out ended.Done bytes)
MigrateEnds input out ended.MalformedTrace = OfAll input (λ bytes. Tells out ended.MalformedTrace bytes)
MigrateEnds input out ended.CannotRead = BreaksOff input out
MigrateEnds input out ended.CannotWrite = (BreaksDown input out ⊎ EndsShort input out) ⊎ OfAll input (λ bytes. TellsFront out bytes)
MigrateEnds input out ended.NoMemory = BreaksOff input out ⊎ OfAll input (λ bytes. TellsNothing out bytes)
MigrateEnds input out other = ⊥

-- where all of a trace was written anew, the verdicts on it are those on what was written
abbrev pub MigrationsKeepVerdicts : Type 0
MigrationsKeepVerdicts =
    (input written : List ℕ) (records rest : ℕ) (verdict : Verdict) → IsMigrated input written records rest →
    IsVerdict input verdict ↔ IsVerdict written verdict
