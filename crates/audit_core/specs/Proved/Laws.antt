-- What holds of verdicts (own).
use Rattle.std.specs.Prelude.{◌≡◌, ℕ, ◌-◌, true, Option, List, [], ◌++◌, length, ◌∷◌}
use Rattle.call_types.specs.declared.act.Record.{Record}
use Rattle.call_types.specs.declared.limits.Bounds.{Bounds}
use Rattle.frame_codec.specs.Records.{IsInRange}
use Rattle.frame_codec.specs.Trace.{header_2, is_told, text, whole_in}
use Rattle.frame_codec.specs.declared.trace.ToldLimits.{ToldLimits}
use Rattle.posix_model.specs.History.{legal}
use Rattle.posix_model.specs.Reserve.{IsLegalRun}
use Rattle.audit_core.specs.Trace.{HaveFrames, IsAtFault}
use Rattle.audit_core.specs.Verdict.{IsEnding, IsVerdict}
use Rattle.audit_core.specs.declared.verdict.Ending.{Ending}
use Rattle.audit_core.specs.declared.verdict.Verdict.{Verdict}
use Rattle.audit_core.specs.declared.verdict.Verdict.TheVariants.{Legal}

-- bytes have one verdict
abbrev pub OneVerdict : Type 0
OneVerdict = (bytes : List ℕ) (v u : Verdict) → IsVerdict bytes v → IsVerdict bytes u → v ≡ u

-- the records of bytes with a verdict end in one way
abbrev pub OneEnding : Type 0
OneEnding = (bytes : List ℕ) (v : Verdict) (e f : Ending) → IsEnding bytes v e → IsEnding bytes v f → e ≡ f

-- the text of a legal run is legal, with all its records and no rest
abbrev pub TextIsLegal : Type 0
TextIsLegal =
    (told : ToldLimits) (h : List Record) → is_told told ≡ true → IsLegalRun told.bounds told.records h → HaveFrames h →
    IsVerdict (text told h) (Legal (length h) 0)

-- a verdict that is legal, with as many records as are whole in a front of a history's text
pub record TellsFront (h : List Record) (v : Verdict) : Type 0 where
  pub whole : List Record
  pub more : List Record
  pub rest : ℕ
  pub front : h ≡ whole ++ more
  pub verdict : v ≡ Legal (length whole) rest

-- whatever front of the text of a legal run was written, its verdict is that it is legal
abbrev pub FrontIsLegal : Type 0
FrontIsLegal =
    (told : ToldLimits) (h : List Record) (bytes left : List ℕ) (v : Verdict) → is_told told ≡ true → IsLegalRun told.bounds told.records h → HaveFrames h
    → text told h ≡ bytes ++ left → IsVerdict bytes v → TellsFront h v

-- a front of a legal run is legal
abbrev pub LegalFront : Type 0
LegalFront = (bounds : Bounds) (most : Option ℕ) (h more : List Record) → IsLegalRun bounds most (h ++ more) → IsLegalRun bounds most h

-- records with their fields in range
abbrev pub AllInRange : List Record → Type 0
AllInRange [] = Unit {0}
AllInRange (r ∷ h) = IsInRange r × AllInRange h

-- a frame can tell each record of a legal history whose fields are in range
abbrev pub LegalHaveFrames : Type 0
LegalHaveFrames = (bounds : Bounds) (h : List Record) → legal bounds h → AllInRange h → HaveFrames h

-- the verdict on whatever front of the text of a legal run was written, if its fields are in range: it is legal, with the records whose
-- frames are whole in the bytes after the header
abbrev pub WrittenIsLegal : Type 0
WrittenIsLegal =
    (told : ToldLimits) (h : List Record) (bytes left : List ℕ) → is_told told ≡ true → IsLegalRun told.bounds told.records h → AllInRange h →
    text told h ≡ bytes ++ left
    → (rest : ℕ) × IsVerdict bytes (Legal (whole_in h (length bytes - length (header_2 told))) rest)

-- a verdict that tells a fault
abbrev pub TellsFault : Verdict → Type 0
TellsFault (Legal records rest) = ⊥
TellsFault other = Unit {0}

-- a fault stays, whatever bytes come after it
abbrev pub FaultStays : Type 0
FaultStays = (bytes more : List ℕ) (v : Verdict) → TellsFault v → IsVerdict bytes v → IsVerdict (bytes ++ more) v

-- a frame at fault stays so, whatever comes after it
abbrev pub BrokenStays : Type 0
BrokenStays = (rest more : List ℕ) → IsAtFault rest → IsAtFault (rest ++ more)
