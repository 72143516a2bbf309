-- The verdict on what was written of a run (own).
use Rattle.std.specs.Prelude.{◌≡◌, ℕ, List, Option, IfSome, length}
use Rattle.std.specs.Io.KnownBytes.{Appends}
use Rattle.std.specs.List.{slice_get}
use Rattle.call_types.specs.declared.act.Record.{Record}
use Rattle.frame_codec.specs.Records.{FlagsFit, IsInRange}
use Rattle.audit_core.specs.Verdict.{IsVerdict}
use Rattle.audit_core.specs.declared.verdict.Verdict.TheVariants.{Legal}

-- all fields of a record are in range if the flags of an open are: that much the types of its parts say
abbrev pub FlagsDecide : Record → Type 0
FlagsDecide r = FlagsFit r.act → IsInRange r

-- that is so of the record of a place, if there is one
abbrev pub FlagsDecideAt : List Record → ℕ → Type 0
FlagsDecideAt records p = IfSome (slice_get records p) FlagsDecide

-- the verdict on what was added to a sink, so many bytes, by the limits that they tell: they are legal, with so many whole records
pub record IsJudged (base now : Option (List ℕ)) (whole bytes : ℕ) : Type 0 where
  pub written : List ℕ
  pub rest : ℕ
  pub appends : Appends base now written
  pub bytes_is : bytes ≡ length written
  pub verdict : IsVerdict written (Legal whole rest)
