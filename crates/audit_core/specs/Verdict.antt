-- The verdict on the bytes of a trace (own).
use Rattle.std.specs.Prelude.{◌≡◌, ◌≢◌, ℕ, ◌+◌, false, ◌⊎◌, List, [], ◌∷◌, ◌++◌, Option, None, Some, length, drop}
use Rattle.call_types.specs.declared.act.Act.{Act}
use Rattle.call_types.specs.declared.act.Act.TheVariants as act
use Rattle.call_types.specs.declared.act.Record.{Record}
use Rattle.call_types.specs.declared.outcome.Outcome.{Outcome}
use Rattle.posix_model.specs.Step.{outcome_of}
use Rattle.posix_model.specs.History.{after, world_of}
use Rattle.posix_model.specs.Reserve.{can_end, IsLegalRun}
use Rattle.frame_codec.specs.Trace.{frames_of, header}
use Rattle.frame_codec.specs.declared.trace.Header.{Header}
use Rattle.frame_codec.specs.declared.trace.Header.TheVariants.{Unheaded, Short, Headed}
use Rattle.frame_codec.specs.declared.trace.ToldLimits.{ToldLimits}
use Rattle.audit_core.specs.Trace.{Begins, IsUnfinished, IsAtFault}
use Rattle.audit_core.specs.declared.verdict.Verdict.{Verdict}
use Rattle.audit_core.specs.declared.verdict.Verdict.TheVariants.{Legal, Illegal, Malformed}
use Rattle.audit_core.specs.declared.verdict.Ending.{Ending}
use Rattle.audit_core.specs.declared.verdict.Ending.TheVariants.{Closed, Open}
use Rattle.audit_core.specs.declared.verdict.Finding.{Finding}

-- a record after these is not what the model gives: that is this outcome, or none
pub record Differs (told : ToldLimits) (before : List Record) (r : Record) (expected : Option Outcome) : Type 0 where
  pub expected_is : outcome_of told.bounds (world_of told.bounds before) r.actor r.act ≡ expected
  pub differs : expected ≢ Some r.outcome

-- a record after these is what the model gives, but the run could not be ended after it, so none is expected
pub record Overruns (told : ToldLimits) (before : List Record) (r : Record) (expected : Option Outcome) : Type 0 where
  pub outcome_is : outcome_of told.bounds (world_of told.bounds before) r.actor r.act ≡ Some r.outcome
  pub ends_not : can_end told.records (after told.bounds (world_of told.bounds before) r) (length before + 1) ≡ false
  pub expected_is : expected ≡ None

-- the records before this place are those of a legal run, and the one at it breaks that: so it is the first that does
pub record BreaksAt (told : ToldLimits) (h : List Record) (place : ℕ) (expected : Option Outcome) : Type 0 where
  pub before : List Record
  pub broken : Record
  pub others : List Record
  pub all_are : h ≡ before ++ broken ∷ others
  pub place_is : place ≡ length before
  pub is_legal : IsLegalRun told.bounds told.records before
  pub breaks : Differs told before broken expected ⊎ Overruns told before broken expected

-- bytes with so many whole records, which are legal, and after them so many bytes of an unfinished frame
pub record IsLegal (told : ToldLimits) (body : List ℕ) (records rest : ℕ) : Type 0 where
  pub h : List Record
  pub left : List ℕ
  pub begins : Begins body h left
  pub unfinished : IsUnfinished left
  pub is_legal : IsLegalRun told.bounds told.records h
  pub records_are : records ≡ length h
  pub rest_is : rest ≡ length left

-- bytes with a whole record that breaks what is legal; whatever comes after it is not looked at
pub record IsIllegal (told : ToldLimits) (body : List ℕ) (place : ℕ) (expected : Option Outcome) : Type 0 where
  pub h : List Record
  pub left : List ℕ
  pub begins : Begins body h left
  pub breaks : BreaksAt told h place expected

-- bytes with legal records and then a frame at fault, after so many bytes, those of the header among them
pub record IsMalformedAt (told : ToldLimits) (headed : ℕ) (body : List ℕ) (at : ℕ) : Type 0 where
  pub h : List Record
  pub left : List ℕ
  pub begins : Begins body h left
  pub fault : IsAtFault left
  pub is_legal : IsLegalRun told.bounds told.records h
  pub at_is : at ≡ headed + length (frames_of h)

-- the verdict on the bytes after a header of this length that tells this
abbrev pub IsVerdictAfter : ToldLimits → ℕ → List ℕ → Verdict → Type 0
IsVerdictAfter told headed body (Legal records rest) = IsLegal told body records rest
IsVerdictAfter told headed body (Illegal place expected) = IsIllegal told body place expected
IsVerdictAfter told headed body (Malformed at) = IsMalformedAt told headed body at

-- the verdict on bytes, by what they begin with
abbrev pub IsVerdictBy : Header → List ℕ → Verdict → Type 0
IsVerdictBy Unheaded bytes verdict = verdict ≡ Malformed 0
IsVerdictBy Short bytes verdict = verdict ≡ Legal 0 (length bytes)
IsVerdictBy (Headed told headed) bytes verdict = IsVerdictAfter told headed (drop headed bytes) verdict

-- the verdict on bytes
abbrev pub IsVerdict : List ℕ → Verdict → Type 0
IsVerdict bytes verdict = IsVerdictBy (header bytes) bytes verdict

-- ---- how the records end

-- how records end of which the last is about this act
abbrev pub ended_by : Act → Ending
ended_by act.CloseRun = Closed
ended_by other = Open

-- how records end that come after others that end so
abbrev pub ending_from : Ending → List Record → Ending
ending_from before [] = before
ending_from before (r ∷ h) = ending_from (ended_by r.act) h

-- how records end: with the closing of their run, or open
abbrev pub ending_of : List Record → Ending
ending_of h = ending_from Open h

-- bytes with so many legal records, which end so, and after them so many bytes of an unfinished frame
pub record EndsWith (told : ToldLimits) (body : List ℕ) (records rest : ℕ) (ending : Ending) : Type 0 where
  pub legal : IsLegal told body records rest
  pub ending_is : ending ≡ ending_of legal.h

-- the records of bytes that begin so end so, of which there are so many, with so many bytes after them
abbrev pub EndsBy : Header → List ℕ → ℕ → ℕ → Ending → Type 0
EndsBy Unheaded bytes records rest ending = ending ≡ Open
EndsBy Short bytes records rest ending = ending ≡ Open
EndsBy (Headed told headed) bytes records rest ending = EndsWith told (drop headed bytes) records rest ending

-- the records of bytes with this verdict end so; where the verdict tells a fault, they are told to be open
abbrev pub IsEnding : List ℕ → Verdict → Ending → Type 0
IsEnding bytes (Legal records rest) ending = EndsBy (header bytes) bytes records rest ending
IsEnding bytes (Illegal place expected) ending = ending ≡ Open
IsEnding bytes (Malformed at) ending = ending ≡ Open

-- what is found of bytes: their verdict, and how their records end
pub record IsFinding (bytes : List ℕ) (found : Finding) : Type 0 where
  pub verdict : IsVerdict bytes found.verdict
  pub ending : IsEnding bytes found.verdict found.ending
