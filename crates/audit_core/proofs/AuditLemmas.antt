-- An audit of what a reader gives.
use Rattle.std.proofs.Common.{◌≡◌, ℕ, List, Result, Ok, Err}
use Rattle.std.specs.Io.KnownBytes.{Consumes, IsAtEnd}
use Rattle.logged_streams.specs.Streams.{LoggedReaderState}
use Rattle.audit_core.specs.Audited.{Audits, IsJudgedAt}
use Rattle.audit_core.specs.Auditing.{IsFaultOf, IsTold}
use Rattle.audit_core.specs.TraceState.{TraceState, IsTaking}
use Rattle.audit_core.specs.Proved.Taking.{Ends}
use Rattle.audit_core.specs.declared.audit.AuditFault.{AuditFault}
use Rattle.audit_core.specs.declared.audit.AuditFault.TheVariants as faults
use Rattle.audit_core.specs.Verdict.{IsFinding}
use Rattle.audit_core.specs.declared.verdict.Ending.{Ending}
use Rattle.audit_core.specs.declared.verdict.Ending.TheVariants.{Open}
use Rattle.audit_core.specs.declared.verdict.Finding.{Finding}
use Rattle.audit_core.specs.declared.verdict.Verdict.{Verdict}
use Rattle.audit_core.specs.declared.verdict.Verdict.TheVariants.{Legal, Illegal, Malformed}

met_at_end : (from to : LoggedReaderState) (verdict : Verdict) → IsAtEnd to.remaining → to.log.failed ≡ from.log.failed → IsJudgedAt from to verdict
met_at_end from to (Legal records rest) at_end sound = (at_end, sound)
met_at_end from to (Illegal place expected) at_end sound = sound
met_at_end from to (Malformed at) at_end sound = sound

-- the reader is at its end
pub judged_at_end : (from to : LoggedReaderState) (trace : TraceState) (found : Finding) (input : List ℕ) → Consumes from.remaining to.remaining input →
    IsAtEnd to.remaining → to.log.failed ≡ from.log.failed → IsTaking input trace
    → Ends trace found → Audits from to (Ok found)
judged_at_end from to trace found input consumes at_end sound taking ends =
    record { input = input; consumes = consumes; answers = ends input taking; met = met_at_end from to found.verdict at_end sound }

-- a fault is found of these bytes, and met before the reader's end
record FaultFound (from to : LoggedReaderState) (input : List ℕ) (found : Finding) : Type 0 where
  is : IsFinding input found
  met : IsJudgedAt from to found.verdict

fault_found : (from to : LoggedReaderState) (verdict : Verdict) (ending : Ending) (input : List ℕ) → to.log.failed ≡ from.log.failed → IsFaultOf input verdict →
    ending ≡ Open
    → FaultFound from to input (record { verdict = verdict; ending = ending })
fault_found from to (Legal records rest) ending input sound fault is_open = absurd fault
fault_found from to (Illegal place expected) ending input sound fault is_open = record { is = record { verdict = fault; ending = is_open }; met = sound }
fault_found from to (Malformed at) ending input sound fault is_open = record { is = record { verdict = fault; ending = is_open }; met = sound }

-- an answer is told before
pub judged_before : (from to : LoggedReaderState) (answer : Result Finding AuditFault) (input : List ℕ) → Consumes from.remaining to.remaining input →
    to.log.failed ≡ from.log.failed → IsTold input answer → Audits from to answer
judged_before from to (Ok found) input consumes sound told =
    let f = fault_found from to found.verdict found.ending input sound told.0 told.1 in
    record { input = input; consumes = consumes; answers = f.is; met = f.met }
judged_before from to (Err faults.Read) input consumes sound told = absurd told
judged_before from to (Err faults.NoMemory) input consumes sound told = record { input = input; consumes = consumes; answers = tt; met = sound }
