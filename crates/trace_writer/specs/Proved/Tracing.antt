-- What is done to a trace that is being written (own).
use Rattle.std.specs.Prelude.{◌≡◌, ℕ, ◌+◌, ◌≤◌, Bool, true, false, List, [], ◌∷◌, ◌++◌, ◌⊎◌, Option, None, Some, length}
use Rattle.std.specs.Io.KnownBytes as io
use Rattle.call_types.specs.declared.act.Record.{Record}
use Rattle.frame_codec.specs.Frames.{frame}
use Rattle.frame_codec.specs.Records.{record_bytes}
use Rattle.frame_codec.specs.declared.encode.TheConstants.{RECORD_FRAME_MAX}
use Rattle.trace_writer.specs.Traces.{BeginsUnspelled, HasFrame, IsTrace}
use Rattle.trace_writer.specs.TracerState.{TracerState}
use Rattle.trace_writer.specs.declared.traced.TraceFault.{TraceFault}
use Rattle.trace_writer.specs.declared.traced.TraceFault.TheVariants as faults

-- the same trace, to which nothing came (own)
pub record Stays (old new : TracerState) : Type 0 where
  pub told : new.told ≡ old.told
  pub base : new.base ≡ old.base
  pub before : new.before ≡ old.before
  pub received : new.received ≡ old.received
  pub is_torn : new.is_torn ≡ old.is_torn

-- the same trace, of which all is written, unless something went wrong (own)
pub record Flushes (old new : TracerState) : Type 0 where
  pub stays : Stays old new
  pub all : new.fault ≡ None → new.unsent ≡ []

-- a record's frame more is not written yet, unless something went wrong, as that the record has none (own)
pub record MakesFrame (old new : List ℕ) (before after : Option TraceFault) (r : Record) : Type 0 where
  pub made : after ≡ None → (before ≡ None) × (new ≡ old ++ frame (record_bytes r)) × HasFrame r
  pub few : after ≡ None → length (frame (record_bytes r)) ≤ RECORD_FRAME_MAX
  pub told : (after ≡ before) ⊎ ((before ≡ None) ×
      (((after ≡ Some faults.NoMemory) × HasFrame r) ⊎ ((after ≡ Some faults.Unspellable) × BeginsUnspelled (r ∷ []))))

-- the sink was synced, unless something went wrong before (own)
pub record Syncs (old new : Option (List ℕ)) (counted counts : ℕ) (is_synced : Bool) (before after : Option TraceFault) : Type 0 where
  pub keeps : io.Appends old new []
  pub synced : after ≡ None → (before ≡ None) × (is_synced ≡ true)
  pub counts_is : (after ≡ before) × (counts ≡ counted) ⊎ ((before ≡ None) × (after ≡ Some faults.Sync) × (counts ≡ counted + 1))

-- a record more was kept, or this and all later ones are not (own)
pub record Keeps (old new : TracerState) (r : Record) : Type 0 where
  pub told : new.told ≡ old.told
  pub base : new.base ≡ old.base
  pub before : new.before ≡ old.before
  pub kept : new.is_torn ≡ false → (old.is_torn ≡ false) × (new.received ≡ old.received ++ r ∷ [])
  pub lost : new.is_torn ≡ true → new.received ≡ old.received

-- what became of a trace, of which all records were kept unless memory ran out (own)
pub record IsTraceOf (t : TracerState) (now : Option (List ℕ)) (after : ℕ) (is_synced : Bool) (whole bytes : ℕ) (fault : Option TraceFault)
    (received : List Record) : Type 0 where
  pub trace : IsTrace t.told t.base now t.before after is_synced whole bytes fault received
  pub received_is : received ≡ t.received
  pub torn : t.is_torn ≡ true → fault ≡ Some faults.NoMemory

-- the records that came out of the ring are those that a trace keeps, and then those that it could not keep (own)
pub record Follows (got : List Record) (t : TracerState) : Type 0 where
  pub dropped : List Record
  pub is : got ≡ t.received ++ dropped
  pub whole : t.is_torn ≡ false → dropped ≡ []

-- a trace of one run goes on, and follows what comes out of the ring (own)
pub record GoesOn (old new : TracerState) (got : List Record) : Type 0 where
  pub told : new.told ≡ old.told
  pub base : new.base ≡ old.base
  pub before : new.before ≡ old.before
  pub follows : Follows got new
