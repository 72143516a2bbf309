-- A trace that is judged as its bytes come, in any pieces (own).
use Rattle.std.specs.Prelude.{◌≡◌, ℕ, ◌+◌, ◌^◌, ◌<◌, List, [], ◌++◌, Option, None, Some, length}
use Rattle.frame_codec.specs.Decoding.{fresh, told_place}
use Rattle.frame_codec.specs.declared.decoder.Progress.{Progress}
use Rattle.frame_codec.specs.declared.decoder.Progress.TheVariants as progress
use Rattle.frame_codec.specs.declared.trace.ToldLimits.{ToldLimits}
use Rattle.audit_core.specs.Proved.Judging.{fresh_judge}
use Rattle.audit_core.specs.Verdict.{IsFinding, IsIllegal, IsMalformedAt, IsVerdict}
use Rattle.audit_core.specs.declared.verdict.Finding.{Finding}
use Rattle.audit_core.specs.declared.verdict.Verdict.{Verdict}
use Rattle.audit_core.specs.declared.verdict.Verdict.TheVariants.{Legal, Illegal, Malformed}
use Rattle.audit_core.specs.TraceState.{BodyState, TraceState, IsJudging, IsTaking}

-- after a header of this length that tells this
abbrev pub fresh_body : ToldLimits → ℕ → BodyState
fresh_body told headed = record { headed = headed; decoder = fresh; judge = fresh_judge told }

-- before the first byte
abbrev pub fresh_trace : TraceState
fresh_trace = record { front = []; body = None }

-- ---- the bytes after a header

-- the verdict on a fault of frames, if there is one, after a header of so many bytes
abbrev pub fault_at : Progress → ℕ → Option Verdict
fault_at progress.More headed = None
fault_at (progress.Malformed at) headed = Some (Malformed (told_place (at + headed)))
fault_at (progress.TooLong at) headed = Some (Malformed (told_place (at + headed)))

-- what is found in these bytes: no fault so far, or their verdict, whatever comes after them
abbrev pub BodyGoesOn : ToldLimits → List ℕ → BodyState → Option Verdict → Type 0
BodyGoesOn told body b None = IsJudging told body b
BodyGoesOn told body b (Some (Legal records rest)) = ⊥
BodyGoesOn told body b (Some (Illegal place expected)) = IsIllegal told body place expected
BodyGoesOn told body b (Some (Malformed at)) = IsMalformedAt told b.headed body at

-- a piece more of the bytes after a header
pub record TakesBody (piece : List ℕ) (old new : BodyState) (found : Option Verdict) : Type 0 where
  pub headed : new.headed ≡ old.headed
  pub goes : (told : ToldLimits) (body : List ℕ) → IsJudging told body old → old.headed + length (body ++ piece) < 2 ^ 64 →
      BodyGoesOn told (body ++ piece) new found

-- the same where there is a body
pub record TakesAfter (piece : List ℕ) (old new : Option BodyState) (found : Option Verdict) : Type 0 where
  pub before : BodyState
  pub after : BodyState
  pub old_is : old ≡ Some before
  pub new_is : new ≡ Some after
  pub takes : TakesBody piece before after found

-- ---- all bytes

-- what is found in these bytes: no fault so far, or their verdict
abbrev pub IsFound : List ℕ → TraceState → Option Verdict → Type 0
IsFound input t None = IsTaking input t
IsFound input t (Some (Legal records rest)) = ⊥
IsFound input t (Some verdict) = IsVerdict input verdict

-- a piece more, after whatever bytes without a fault
abbrev pub TakesPiece : List ℕ → TraceState → TraceState → Option Verdict → Type 0
TakesPiece piece old new found = (input : List ℕ) → IsTaking input old → length (input ++ piece) < 2 ^ 64 → IsFound (input ++ piece) new found

-- no byte comes after those that were taken
abbrev pub Ends : TraceState → Finding → Type 0
Ends t found = (input : List ℕ) → IsTaking input t → IsFinding input found
