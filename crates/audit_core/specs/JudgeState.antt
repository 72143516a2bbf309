-- What the records so far led to (own).
use Rattle.std.specs.Prelude.{◌≡◌, ℕ, ◌^◌, ◌<◌, Bool, true, false, List, [], ◌∷◌, ◌++◌, Option, length}
use Rattle.call_types.specs.declared.act.Record.{Record}
use Rattle.call_types.specs.declared.outcome.Outcome.{Outcome}
use Rattle.frame_codec.specs.Decoding.{told_place}
use Rattle.frame_codec.specs.declared.trace.ToldLimits.{ToldLimits}
use Rattle.posix_model.specs.declared.world.World.{World}
use Rattle.posix_model.specs.History.{world_of}
use Rattle.posix_model.specs.Reserve.{IsLegalRun}
use Rattle.audit_core.specs.Verdict.{BreaksAt, ending_of}
use Rattle.audit_core.specs.declared.verdict.Ending.{Ending}

-- what is told of the run, the world after the records so far, how many they were and how they end
pub record JudgeState : Type 0 where
  pub told : ToldLimits
  pub world : World
  pub place : ℕ
  pub ending : Ending

-- these records were judged: they are those of a legal run, and led to this world
pub record HasJudged (told : ToldLimits) (h : List Record) (j : JudgeState) : Type 0 where
  pub is_legal : IsLegalRun told.bounds told.records h
  pub told_is : j.told ≡ told
  pub world : j.world ≡ world_of told.bounds h
  pub place : j.place ≡ told_place (length h)
  pub ending : j.ending ≡ ending_of h

-- one record more, after whatever was judged: it is legal there too, or breaks what is legal, where this was expected
abbrev pub JudgesNext : JudgeState → JudgeState → Record → Option Outcome → Bool → Type 0
JudgesNext old new r expected true = (told : ToldLimits) (h : List Record) → HasJudged told h old → length h < 2 ^ 64 → HasJudged told (h ++ r ∷ []) new
JudgesNext old new r expected false = (told : ToldLimits) (h : List Record) → HasJudged told h old → length h < 2 ^ 64 →
    BreaksAt told (h ++ r ∷ []) new.place expected
