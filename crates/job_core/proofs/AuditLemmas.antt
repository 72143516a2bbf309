-- From an audit of what was read to the verdict on the whole input.
use Rattle.std.proofs.Common.{◌≡◌, ◌∙◌, ℕ, Bool, true, false, List, ◌++◌, Option, None, Some, Ok, refl, sym, ap, subst}
use Rattle.std.specs.Prelude.{◌==◌, IfSome, if◌then◌else◌}
use Rattle.std.proofs.lemmas.List.{append-nil}
use Rattle.std.specs.Io.KnownBytes.{Consumes, IsAtEnd}
use Rattle.logged_streams.specs.Streams.{LoggedReaderState, LoggedWriterState, Writes}
use Rattle.audit_core.specs.Audited.{Audits, IsJudgedAt}
use Rattle.audit_core.specs.Proved.Laws.{FaultStays}
use Rattle.audit_core.specs.Verdict.{IsFinding}
use Rattle.audit_core.specs.declared.verdict.Ending.{Ending}
use Rattle.audit_core.specs.declared.verdict.Ending.TheVariants.{Closed, Open}
use Rattle.audit_core.specs.declared.verdict.Finding.{Finding}
use Rattle.audit_core.specs.declared.verdict.Verdict.{Verdict}
use Rattle.audit_core.specs.declared.verdict.Verdict.TheVariants.{Legal, Illegal, Malformed}
use Rattle.job_core.specs.Audit.{AuditEnds, IsFoundOn, WritesVerdict, legal_end, verdict_end, verdict_line}
use Rattle.command_line.specs.declared.demand.Demand.{Demand}
use Rattle.command_line.specs.declared.demand.Demand.TheVariants as demand
use Rattle.job_core.specs.Output.{AppendsFront}
use Rattle.job_core.specs.declared.job_end.JobEnd.{JobEnd}
use Rattle.job_core.specs.declared.job_end.JobEnd.TheVariants as ended

-- a reader at its end gave all
all_read : (from to : Option (List ℕ)) (bytes : List ℕ) → Consumes from to bytes → IsAtEnd to → IfSome from (λ known. bytes ≡ known)
all_read None to bytes consumes end = tt
all_read (Some known) None bytes consumes end = absurd consumes
all_read (Some known) (Some left) bytes consumes end = sym (consumes ∙ ap (λ (x : List ℕ). bytes ++ x) end ∙ append-nil bytes)

legal_judged : (from to : Option (List ℕ)) (bytes : List ℕ) (found : Finding) → Consumes from to bytes → IsAtEnd to → IsFinding bytes found →
    IsFoundOn from found
legal_judged from to bytes found consumes end f = record { bytes = bytes; whole = all_read from to bytes consumes end; is_finding = f }

-- what stays whatever comes after it holds of all
stays_judged : (from to : Option (List ℕ)) (bytes : List ℕ) (found : Finding) → Consumes from to bytes → IsFinding bytes found
    → ((more : List ℕ) → IsFinding (bytes ++ more) found) → IsFoundOn from found
stays_judged None to bytes found consumes f stays = record { bytes = bytes; whole = tt; is_finding = f }
stays_judged (Some known) None bytes found consumes f stays = absurd consumes
stays_judged (Some known) (Some left) bytes found consumes f stays = record { bytes = bytes ++ left; whole = sym consumes; is_finding = stays left }

judged_so : (from to : LoggedReaderState) (bytes : List ℕ) (verdict : Verdict) (ending : Ending) → FaultStays → Consumes from.remaining to.remaining bytes →
    IsJudgedAt from to verdict
    → IsFinding bytes (record { verdict = verdict; ending = ending }) → IsFoundOn from.remaining (record { verdict = verdict; ending = ending })
judged_so from to bytes (Legal records rest) ending stays consumes met f = legal_judged from.remaining to.remaining bytes
    (record { verdict = Legal records rest; ending = ending }) consumes met.0 f
judged_so from to bytes (Illegal place expected) ending stays consumes met f =
    stays_judged from.remaining to.remaining bytes (record { verdict = Illegal place expected; ending = ending }) consumes f
    (λ more. record { verdict = stays bytes more (Illegal place expected) tt f.verdict; ending = f.ending })
judged_so from to bytes (Malformed at) ending stays consumes met f =
    stays_judged from.remaining to.remaining bytes (record { verdict = Malformed at; ending = ending }) consumes f
    (λ more. record { verdict = stays bytes more (Malformed at) tt f.verdict; ending = f.ending })

pub judged : (from to : LoggedReaderState) (found : Finding) → FaultStays → Audits from to (Ok found) → IsFoundOn from.remaining found
judged from to found stays a = judged_so from to a.input found.verdict found.ending stays a.consumes a.met a.answers

-- the ends of an audit whose verdict is written
legal_written : (wanted : Demand) (records rest : ℕ) (ending : Ending) (input : Option (List ℕ)) (old new : LoggedWriterState) →
    WritesVerdict wanted input old new (legal_end wanted records rest ending)
    → AuditEnds wanted input old new (legal_end wanted records rest ending)
legal_written demand.Legal records rest ending input old new w = go (records == 0) w
  where
    go : (b : Bool) → WritesVerdict demand.Legal input old new (if b then ended.NothingJudged else ended.Done) →
        AuditEnds demand.Legal input old new (if b then ended.NothingJudged else ended.Done)
    go true w = w
    go false w = w
legal_written demand.Complete records rest Open input old new w = w
legal_written demand.Complete records rest Closed input old new w = go (rest == 0) w
  where
    go : (b : Bool) → WritesVerdict demand.Complete input old new (if b then ended.Done else ended.Incomplete) →
        AuditEnds demand.Complete input old new (if b then ended.Done else ended.Incomplete)
    go true w = w
    go false w = w

all_written : (wanted : Demand) (verdict : Verdict) (ending : Ending) (input : Option (List ℕ)) (old new : LoggedWriterState) →
    WritesVerdict wanted input old new (verdict_end wanted verdict ending)
    → AuditEnds wanted input old new (verdict_end wanted verdict ending)
all_written wanted (Legal records rest) ending input old new w = legal_written wanted records rest ending input old new w
all_written wanted (Illegal place expected) ending input old new w = w
all_written wanted (Malformed at) ending input old new w = w

pub verdict_written : (wanted : Demand) (input : Option (List ℕ)) (old new : LoggedWriterState) (found : Finding) (line : List ℕ) → IsFoundOn input found →
    line ≡ verdict_line found.verdict → Writes old new line
    → AuditEnds wanted input old new (verdict_end wanted found.verdict found.ending)
verdict_written wanted input old new found line j is writes =
    all_written wanted found.verdict found.ending input old new (record { found = found; judged = j; writes = subst (Writes old new) is writes; end_is = refl })

pub front_written : (wanted : Demand) (input : Option (List ℕ)) (old new : LoggedWriterState) (found : Finding) (line : List ℕ) (end : JobEnd) →
    IsFoundOn input found → line ≡ verdict_line found.verdict → AppendsFront old new line
    → end ≡ ended.CannotWrite → AuditEnds wanted input old new end
front_written wanted input old new found line end j is front e =
    subst (AuditEnds wanted input old new) (sym e) (record { found = found; judged = j; front = subst (AppendsFront old new) is front })

-- ---- the reads

-- no read failed where there is a verdict
met_well : (from to : LoggedReaderState) (verdict : Verdict) → IsJudgedAt from to verdict → to.log.failed ≡ from.log.failed
met_well from to (Legal records rest) met = met.1
met_well from to (Illegal place expected) met = met
met_well from to (Malformed at) met = met

pub read_well : (from to : LoggedReaderState) (found : Finding) → Audits from to (Ok found) → to.log.failed ≡ from.log.failed
read_well from to found a = met_well from to found.verdict a.met

legal_of_none : (wanted : Demand) (records rest : ℕ) (ending : Ending) → legal_end wanted records rest ending ≡ ended.CannotRead → ⊥
legal_of_none demand.Legal records rest ending e = go (records == 0) e
  where
    go : (b : Bool) → (if b then ended.NothingJudged else ended.Done) ≡ ended.CannotRead → ⊥
    go true e = cc
    go false e = cc
legal_of_none demand.Complete records rest Open e = cc
legal_of_none demand.Complete records rest Closed e = go (rest == 0) e
  where
    go : (b : Bool) → (if b then ended.Done else ended.Incomplete) ≡ ended.CannotRead → ⊥
    go true e = cc
    go false e = cc

pub verdict_of_none : (wanted : Demand) (verdict : Verdict) (ending : Ending) → verdict_end wanted verdict ending ≡ ended.CannotRead → ⊥
verdict_of_none wanted (Legal records rest) ending e = legal_of_none wanted records rest ending e
verdict_of_none wanted (Illegal place expected) ending e = cc
verdict_of_none wanted (Malformed at) ending e = cc
