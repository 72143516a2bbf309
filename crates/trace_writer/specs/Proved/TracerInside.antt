-- What holds of each tracer (own).
use Rattle.std.specs.Prelude.{◌≡◌, ℕ, ◌+◌, ◌*◌, ◌≤◌, ◌<◌, ◌^◌, Bool, true, List, ◌++◌, Option, None, Some, length}
use Rattle.std.specs.Io.KnownBytes.{Appends}
use Rattle.call_types.specs.declared.act.Record.{Record}
use Rattle.call_types.specs.declared.limits.TheConstants.{RECORDS_MAX}
use Rattle.frame_codec.specs.declared.encode.TheConstants.{RECORD_FRAME_MAX}
use Rattle.frame_codec.specs.Trace.{text}
use Rattle.frame_codec.specs.declared.trace.TheConstants.{HEADER_2_LENGTH}
use Rattle.frame_codec.specs.declared.trace.ToldLimits.{ToldLimits}
use Rattle.trace_writer.specs.Traces.{CountsFailures, IsSpelled}
use Rattle.trace_writer.specs.declared.traced.TraceFault.{TraceFault}
use Rattle.trace_writer.specs.declared.traced.TraceFault.TheVariants as faults

-- a front of the text was written, and unless something went wrong the rest is not written yet (own)
pub record Writes (told : ToldLimits) (base now : Option (List ℕ)) (before after : ℕ) (unsent : List ℕ) (written : ℕ) (received : List Record)
    (fault : Option TraceFault) (is_torn is_sound : Bool) : Type 0 where
  pub front : List ℕ
  pub rest : List ℕ
  pub appends : Appends base now front
  pub is : front ++ rest ≡ text told received
  pub written_is : written ≡ length front
  pub unsent_is : fault ≡ None → unsent ≡ rest
  pub never_synced : fault ≡ Some faults.Sync → ⊥
  pub tells : CountsFailures fault before after
  pub spelled : IsSpelled told front fault received
  pub torn : is_torn ≡ true → fault ≡ Some faults.NoMemory
  pub long : fault ≡ None → length (text told received) ≤ HEADER_2_LENGTH + RECORD_FRAME_MAX * length received
  pub few : length received ≤ RECORDS_MAX
  pub few_failures : before + 1 < 2 ^ 64
  pub sound : fault ≡ None → is_sound ≡ true
