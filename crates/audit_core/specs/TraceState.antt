-- What is held of a trace whose bytes come in pieces, and which bytes were taken (own).
use Rattle.std.specs.Prelude.{◌≡◌, ℕ, ◌^◌, ◌<◌, List, Option, None, Some, length, drop}
use Rattle.call_types.specs.declared.act.Record.{Record}
use Rattle.call_types.specs.declared.limits.TheConstants.{RECORD_LENGTH_MAX}
use Rattle.frame_codec.specs.Decoding.{DecoderState}
use Rattle.frame_codec.specs.Given.{HasGiven}
use Rattle.frame_codec.specs.Records.{SpellsRecord}
use Rattle.frame_codec.specs.Trace.{header}
use Rattle.frame_codec.specs.declared.trace.Header.TheVariants.{Short, Headed}
use Rattle.frame_codec.specs.declared.trace.ToldLimits.{ToldLimits}
use Rattle.audit_core.specs.JudgeState.{JudgeState, HasJudged}

-- after a header: how many bytes it has, what is held of the bytes after it, and what their records led to
pub record BodyState : Type 0 where
  pub headed : ℕ
  pub decoder : DecoderState
  pub judge : JudgeState

-- the bytes of a header that is not whole, or what comes after one that is
pub record TraceState : Type 0 where
  pub front : List ℕ
  pub body : Option BodyState

-- these bytes were taken: legal records and what is held
pub record IsJudging (told : ToldLimits) (body : List ℕ) (b : BodyState) : Type 0 where
  pub records : List Record
  pub given : HasGiven SpellsRecord RECORD_LENGTH_MAX body records b.decoder
  pub judged : HasJudged told records b.judge

-- these bytes were taken: they end within a header, or have one and after it what a body has taken
abbrev pub IsTakingBy : List ℕ → List ℕ → Option BodyState → Type 0
IsTakingBy input front None = (header input ≡ Short) × (front ≡ input)
IsTakingBy input front (Some b) = (told : ToldLimits) × (header input ≡ Headed told b.headed) × IsJudging told (drop b.headed input) b

-- the same of what is held, and their number can be told
pub record IsTaking (input : List ℕ) (t : TraceState) : Type 0 where
  pub by : IsTakingBy input t.front t.body
  pub few : length input < 2 ^ 64
