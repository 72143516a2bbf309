-- A file whose bytes may be known to nobody, and the ends of what reads it.
use Rattle.std.proofs.Common.{ℕ, inl, inr, List, Option, None, Some, subst}
use Rattle.audit_core.specs.declared.verdict.Finding.{Finding}
use Rattle.logged_streams.specs.Streams.{LoggedWriterState}
use Rattle.job_core.specs.Audit.{AuditEnds, IsFoundOn, WritesVerdict}
use Rattle.fdref.specs.Perform.{Has}
use Rattle.job_core.specs.Migrate.{BreaksOff, MigrateEnds, Outputs}
use Rattle.job_core.specs.Show.{OfAll, OfFront, ShowEnds}
use Rattle.command_line.specs.declared.demand.Demand.{Demand}
use Rattle.job_core.specs.declared.job_end.JobEnd.{JobEnd}
use Rattle.job_core.specs.declared.job_end.JobEnd.TheVariants as ended
use Rattle.command_line.specs.declared.form.Form.{Form}

-- ---- an audit

unknown_judged : (input : Option (List ℕ)) (found : Finding) → IsFoundOn input found → IsFoundOn None found
unknown_judged input found j = record { bytes = j.bytes; whole = tt; is_finding = j.is_finding }

unknown_verdict : (wanted : Demand) (input : Option (List ℕ)) (old new : LoggedWriterState) (end : JobEnd) → WritesVerdict wanted input old new end →
    WritesVerdict wanted None old new end
unknown_verdict wanted input old new end w = record { found = w.found; judged = unknown_judged input w.found w.judged; writes = w.writes; end_is = w.end_is }

unknown_audit : (wanted : Demand) (input : Option (List ℕ)) (old new : LoggedWriterState) (end : JobEnd) → AuditEnds wanted input old new end →
    AuditEnds wanted None old new end
unknown_audit wanted input old new ended.Done a = unknown_verdict wanted input old new ended.Done a
unknown_audit wanted input old new ended.Incomplete a = unknown_verdict wanted input old new ended.Incomplete a
unknown_audit wanted input old new ended.NothingJudged a = unknown_verdict wanted input old new ended.NothingJudged a
unknown_audit wanted input old new ended.IllegalTrace a = unknown_verdict wanted input old new ended.IllegalTrace a
unknown_audit wanted input old new ended.MalformedTrace a = unknown_verdict wanted input old new ended.MalformedTrace a
unknown_audit wanted input old new ended.CannotWrite a = record { found = a.found; judged = unknown_judged input a.found a.judged; front = a.front }
unknown_audit wanted input old new ended.CannotRead a = a
unknown_audit wanted input old new ended.NoMemory a = a
unknown_audit wanted input old new other a = absurd a

pub audit_of : (wanted : Demand) (known input : Option (List ℕ)) (old new : LoggedWriterState) (end : JobEnd) → Has known input →
    AuditEnds wanted input old new end → AuditEnds wanted known old new end
audit_of wanted None input old new end has a = unknown_audit wanted input old new end a
audit_of wanted (Some bytes) input old new end has a = subst (λ (i : Option (List ℕ)). AuditEnds wanted i old new end) has a

-- ---- what is shown

unknown_all : (input : Option (List ℕ)) (P : List ℕ → Type 0) → OfAll input P → OfAll None P
unknown_all input P a = record { bytes = a.bytes; is = tt; holds = a.holds }

unknown_front : (input : Option (List ℕ)) (P : List ℕ → Type 0) → OfFront input P → OfFront None P
unknown_front input P a = record { bytes = a.bytes; more = a.more; is = tt; holds = a.holds }

unknown_show : (form : Form) (input : Option (List ℕ)) (old new : LoggedWriterState) (end : JobEnd) → ShowEnds form input old new end →
    ShowEnds form None old new end
unknown_show form input old new ended.Done a = unknown_all input _ a
unknown_show form input old new (ended.Rest left) a = (a.0, unknown_all input _ a.1)
unknown_show form input old new (ended.Malformed at) a = unknown_all input _ a
unknown_show form input old new ended.CannotRead a = unknown_front input _ a
unknown_show form input old new ended.NoMemory a = unknown_front input _ a
unknown_show form input old new ended.CannotWrite a = unknown_front input _ a
unknown_show form input old new other a = absurd a

pub show_of : (form : Form) (known input : Option (List ℕ)) (old new : LoggedWriterState) (end : JobEnd) → Has known input → ShowEnds form input old new end →
    ShowEnds form known old new end
show_of form None input old new end has a = unknown_show form input old new end a
show_of form (Some bytes) input old new end has a = subst (λ (i : Option (List ℕ)). ShowEnds form i old new end) has a

-- ---- what is written anew

unknown_broken : (input : Option (List ℕ)) (out : Outputs) → BreaksOff input out → BreaksOff None out
unknown_broken input out b = unknown_front input _ b

unknown_migrate : (input : Option (List ℕ)) (out : Outputs) (end : JobEnd) → MigrateEnds input out end → MigrateEnds None out end
unknown_migrate input out ended.Done a = unknown_all input _ a
unknown_migrate input out ended.MalformedTrace a = unknown_all input _ a
unknown_migrate input out ended.CannotRead a = unknown_broken input out a
unknown_migrate input out ended.CannotWrite (inl (inl a)) = inl (inl (unknown_front input _ a))
unknown_migrate input out ended.CannotWrite (inl (inr a)) = inl (inr (unknown_all input _ a))
unknown_migrate input out ended.CannotWrite (inr a) = inr (unknown_all input _ a)
unknown_migrate input out ended.NoMemory (inl a) = inl (unknown_broken input out a)
unknown_migrate input out ended.NoMemory (inr a) = inr (unknown_all input _ a)
unknown_migrate input out other a = absurd a

pub migrate_of : (known input : Option (List ℕ)) (out : Outputs) (end : JobEnd) → Has known input → MigrateEnds input out end → MigrateEnds known out end
migrate_of None input out end has a = unknown_migrate input out end a
migrate_of (Some bytes) input out end has a = subst (λ (i : Option (List ℕ)). MigrateEnds i out end) has a
