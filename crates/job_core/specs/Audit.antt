-- What an audit writes, and what its end says (own).
use Rattle.std.specs.Prelude.{◌≡◌, ◌==◌, if◌then◌else◌, ℕ, List, ◌++◌, Option, None, Some, IfSome, codes, decimal}
use Rattle.call_types.specs.declared.outcome.Outcome.{Outcome}
use Rattle.logged_streams.specs.Streams.{LoggedWriterState, Writes}
use Rattle.script_text.specs.Lines.{outcome_text}
use Rattle.audit_core.specs.Verdict.{IsFinding}
use Rattle.audit_core.specs.declared.verdict.Ending.{Ending}
use Rattle.audit_core.specs.declared.verdict.Ending.TheVariants.{Closed, Open}
use Rattle.audit_core.specs.declared.verdict.Finding.{Finding}
use Rattle.audit_core.specs.declared.verdict.Verdict.{Verdict}
use Rattle.audit_core.specs.declared.verdict.Verdict.TheVariants.{Legal, Illegal, Malformed}
use Rattle.job_core.specs.Output.{AppendsFront}
use Rattle.command_line.specs.declared.demand.Demand.{Demand}
use Rattle.command_line.specs.declared.demand.Demand.TheVariants as demand
use Rattle.job_core.specs.declared.job_end.JobEnd.{JobEnd}
use Rattle.job_core.specs.declared.job_end.JobEnd.TheVariants as ended

-- the outcome that is expected, or that there is to be none
abbrev pub expected_word : Option Outcome → List ℕ
expected_word None = codes "none"
expected_word (Some outcome) = outcome_text outcome

-- the line of a verdict
abbrev pub verdict_line : Verdict → List ℕ
verdict_line (Legal records rest) = codes "legal " ++ (decimal records ++ (codes " rest " ++ (decimal rest ++ codes "\n")))
verdict_line (Illegal place expected) = codes "illegal " ++ (decimal place ++ (codes " expected " ++ (expected_word expected ++ codes "\n")))
verdict_line (Malformed at) = codes "malformed " ++ (decimal at ++ codes "\n")

-- how an audit of a legal trace ends, with so many whole records and so many bytes after them, where the records end so: where completeness
-- is demanded, the last of them has to be the closing, and nothing may come after it
abbrev pub legal_end : Demand → ℕ → ℕ → Ending → JobEnd
legal_end demand.Legal records rest ending = if records == 0 then ended.NothingJudged else ended.Done
legal_end demand.Complete records rest Open = ended.Incomplete
legal_end demand.Complete records rest Closed = if rest == 0 then ended.Done else ended.Incomplete

-- how an audit ends whose verdict is written
abbrev pub verdict_end : Demand → Verdict → Ending → JobEnd
verdict_end wanted (Legal records rest) ending = legal_end wanted records rest ending
verdict_end wanted (Illegal place expected) ending = ended.IllegalTrace
verdict_end wanted (Malformed at) ending = ended.MalformedTrace

-- what is found of all the bytes of a trace, which are the input where that is known
pub record IsFoundOn (input : Option (List ℕ)) (found : Finding) : Type 0 where
  pub bytes : List ℕ
  pub whole : IfSome input (λ known. bytes ≡ known)
  pub is_finding : IsFinding bytes found

-- the line of the verdict was written, and nothing else, and the end is that of what was found
pub record WritesVerdict (wanted : Demand) (input : Option (List ℕ)) (old new : LoggedWriterState) (end : JobEnd) : Type 0 where
  pub found : Finding
  pub judged : IsFoundOn input found
  pub writes : Writes old new (verdict_line found.verdict)
  pub end_is : end ≡ verdict_end wanted found.verdict found.ending

-- a front of that line was written, and nothing else
pub record WritesVerdictFront (input : Option (List ℕ)) (old new : LoggedWriterState) : Type 0 where
  pub found : Finding
  pub judged : IsFoundOn input found
  pub front : AppendsFront old new (verdict_line found.verdict)

-- what the end of an audit with this demand says of what was written
abbrev pub AuditEnds : Demand → Option (List ℕ) → LoggedWriterState → LoggedWriterState → JobEnd → Type 0
AuditEnds wanted input old new ended.Done = WritesVerdict wanted input old new ended.Done
AuditEnds wanted input old new ended.Incomplete = WritesVerdict wanted input old new ended.Incomplete
AuditEnds wanted input old new ended.NothingJudged = WritesVerdict wanted input old new ended.NothingJudged
AuditEnds wanted input old new ended.IllegalTrace = WritesVerdict wanted input old new ended.IllegalTrace
AuditEnds wanted input old new ended.MalformedTrace = WritesVerdict wanted input old new ended.MalformedTrace
AuditEnds wanted input old new ended.CannotWrite = WritesVerdictFront input old new
AuditEnds wanted input old new ended.CannotRead = new ≡ old
AuditEnds wanted input old new ended.NoMemory = new ≡ old
AuditEnds wanted input old new other = ⊥
