-- What became of a trace (own).
use Rattle.std.specs.Prelude.{◌≡◌, ℕ, ◌+◌, ◌-◌, ◌≤◌, Bool, true, List, [], ◌∷◌, ◌++◌, Option, None, Some, length}
use Rattle.std.specs.Io.KnownBytes.{Appends}
use Rattle.std.specs.List.{AllByRecursion}
use Rattle.call_types.specs.declared.act.Record.{Record}
use Rattle.call_types.specs.declared.limits.TheConstants.{RECORD_LENGTH_MAX}
use Rattle.frame_codec.specs.Frames.{frame, IsFrame, HasNoFrame}
use Rattle.frame_codec.specs.Records.{record_bytes, SpellsRecord}
use Rattle.frame_codec.specs.Trace.{header_2, text, whole_in}
use Rattle.frame_codec.specs.declared.trace.ToldLimits.{ToldLimits}
use Rattle.trace_writer.specs.declared.traced.TraceFault.{TraceFault}
use Rattle.trace_writer.specs.declared.traced.TraceFault.TheVariants as faults

-- how many failures a sink counts, where this went wrong and so many were counted before (own)
abbrev pub CountsFailures : Option TraceFault → ℕ → ℕ → Type 0
CountsFailures None before after = after ≡ before
CountsFailures (Some faults.Write) before after = after ≡ before + 1
CountsFailures (Some faults.Sync) before after = after ≡ before + 1
CountsFailures (Some faults.Unspellable) before after = after ≡ before
CountsFailures (Some faults.NoMemory) before after = (before ≤ after) × (after ≤ before + 1)

-- a record has the frame that a trace has of it (own)
abbrev pub HasFrame : Record → Type 0
HasFrame r = IsFrame SpellsRecord RECORD_LENGTH_MAX r (frame (record_bytes r))

-- the first of some records is there, and has no frame (own)
abbrev pub BeginsUnspelled : List Record → Type 0
BeginsUnspelled [] = ⊥
BeginsUnspelled (r ∷ later) = HasNoFrame SpellsRecord RECORD_LENGTH_MAX r

-- what was written is a front of the text of the first records that were received, each of which has a frame. They are all where nothing went wrong, or only the sync did; and after them
-- comes a record without a frame where that is what went wrong (own)
pub record IsSpelled (told : ToldLimits) (front : List ℕ) (fault : Option TraceFault) (received : List Record) : Type 0 where
  pub framed : List Record
  pub later : List Record
  pub left : List ℕ
  pub is : received ≡ framed ++ later
  pub have : AllByRecursion HasFrame framed
  pub fronts : front ++ left ≡ text told framed
  pub all : fault ≡ None → later ≡ []
  pub unsynced : fault ≡ Some faults.Sync → later ≡ []
  pub unspelled : fault ≡ Some faults.Unspellable → BeginsUnspelled later

-- What became of a trace that tells these limits: so many bytes of the text of the records were added to what the sink held, its first ones, and so many records
-- are whole in them. They are all, and were synced, where nothing went wrong; where only the sync failed, they are all. What went wrong
-- in the sink it has counted, and what was written can be read (own)
pub record IsTrace (told : ToldLimits) (base now : Option (List ℕ)) (before after : ℕ) (is_synced : Bool) (whole bytes : ℕ) (fault : Option TraceFault)
    (received : List Record) : Type 0 where
  pub front : List ℕ
  pub rest : List ℕ
  pub appends : Appends base now front
  pub is : front ++ rest ≡ text told received
  pub bytes_is : bytes ≡ length front
  pub whole_is : whole ≡ whole_in received (bytes - length (header_2 told))
  pub all : fault ≡ None → (rest ≡ []) × (is_synced ≡ true)
  pub unsynced : fault ≡ Some faults.Sync → rest ≡ []
  pub tells : CountsFailures fault before after
  pub spelled : IsSpelled told front fault received

-- of what came out of the ring all was received, unless memory ran out (own)
pub record IsReceived (got received : List Record) (fault : Option TraceFault) : Type 0 where
  pub dropped : List Record
  pub is : got ≡ received ++ dropped
  pub whole : (fault ≡ Some faults.NoMemory → ⊥) → dropped ≡ []
