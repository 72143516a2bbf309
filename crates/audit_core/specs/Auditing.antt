-- What is told of a trace before its end (own).
use Rattle.std.specs.Prelude.{◌≡◌, ℕ, List, Result, Ok, Err}
use Rattle.audit_core.specs.Verdict.{IsVerdict}
use Rattle.audit_core.specs.declared.audit.AuditFault.{AuditFault}
use Rattle.audit_core.specs.declared.audit.AuditFault.TheVariants as faults
use Rattle.audit_core.specs.declared.verdict.Ending.TheVariants.{Open}
use Rattle.audit_core.specs.declared.verdict.Finding.{Finding}
use Rattle.audit_core.specs.declared.verdict.Verdict.{Verdict}
use Rattle.audit_core.specs.declared.verdict.Verdict.TheVariants.{Legal}

-- the verdict on these bytes, which tells a fault
abbrev pub IsFaultOf : List ℕ → Verdict → Type 0
IsFaultOf bytes (Legal records rest) = ⊥
IsFaultOf bytes verdict = IsVerdict bytes verdict

-- the verdict on these bytes, whatever comes after them, or that memory ran out
abbrev pub IsTold : List ℕ → Result Finding AuditFault → Type 0
IsTold bytes (Ok found) = IsFaultOf bytes found.verdict × (found.ending ≡ Open)
IsTold bytes (Err faults.Read) = ⊥
IsTold bytes (Err faults.NoMemory) = Unit {0}
