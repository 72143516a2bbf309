-- What an audit of a reader gives (own).
use Rattle.std.specs.Prelude.{◌≡◌, ℕ, List, Result, Ok, Err}
use Rattle.std.specs.Io.KnownBytes.{Consumes, IsAtEnd}
use Rattle.logged_streams.specs.Streams.{LoggedReaderState, IsReadNoMore}
use Rattle.logged_streams.specs.Reading.{more_calls}
use Rattle.audit_core.specs.Verdict.{IsFinding}
use Rattle.audit_core.specs.declared.audit.AuditFault.{AuditFault}
use Rattle.audit_core.specs.declared.audit.AuditFault.TheVariants as faults
use Rattle.audit_core.specs.declared.audit.TheConstants.{READS_MAX}
use Rattle.audit_core.specs.declared.verdict.Finding.{Finding}
use Rattle.audit_core.specs.declared.verdict.Verdict.{Verdict}
use Rattle.audit_core.specs.declared.verdict.Verdict.TheVariants.{Legal}

-- a trace is legal only where the reader's end was met, and no read failed
abbrev pub IsJudgedAt : LoggedReaderState → LoggedReaderState → Verdict → Type 0
IsJudgedAt from to (Legal records rest) = IsAtEnd to.remaining × (to.log.failed ≡ from.log.failed)
IsJudgedAt from to other = to.log.failed ≡ from.log.failed

-- a trace is legal only where the reader's end was met, and there is a read fault only where the reader is read no more; else no read failed
abbrev pub MeetsItsEnd : LoggedReaderState → LoggedReaderState → Result Finding AuditFault → Type 0
MeetsItsEnd from to (Ok found) = IsJudgedAt from to found.verdict
MeetsItsEnd from to (Err faults.Read) = IsReadNoMore (more_calls READS_MAX from.log) to.log
MeetsItsEnd from to (Err faults.NoMemory) = to.log.failed ≡ from.log.failed

-- what is answered is what is found of these bytes, or a fault
abbrev pub IsAnswer : List ℕ → Result Finding AuditFault → Type 0
IsAnswer input (Ok found) = IsFinding input found
IsAnswer input (Err fault) = Unit {0}

-- an audit: all that was read, and what is answered on it
pub record Audits (from to : LoggedReaderState) (answer : Result Finding AuditFault) : Type 0 where
  pub input : List ℕ
  pub consumes : Consumes from.remaining to.remaining input
  pub answers : IsAnswer input answer
  pub met : MeetsItsEnd from to answer
