-- Streams, and what became of the calls on them (own).
use Rattle.std.specs.Prelude.{◌≡◌, ℕ, ◌+◌, ◌-◌, ◌*◌, ◌^◌, ◌≤◌, ◌<◌, ◌⊎◌, min, Bool, true, false, List, [], Option, length, take, if◌then◌else◌}
use Rattle.std.specs.Io.KnownBytes.{Appends, Consumes, Keeps, IsAtEnd}
use Rattle.logged_streams.specs.declared.stream_log.TheConstants.{INTERRUPTIONS_MAX, REFUSALS_MAX}
use Rattle.logged_streams.specs.declared.stream_log.Gave.{Gave}
use Rattle.logged_streams.specs.declared.stream_log.Gave.TheVariants as gave

-- how many calls there were, how many of them gave or took bytes, how many of the last ones were interrupted, whether one failed, and how often leave to write was refused in a row so far (own)
pub record LogState : Type 0 where
  pub calls : ℕ
  pub moved : ℕ
  pub interruptions : ℕ
  pub failed : Bool
  pub refusals : ℕ

-- no call yet (own)
abbrev pub fresh_log : LogState
fresh_log = record { calls = 0; moved = 0; interruptions = 0; failed = false; refusals = 0 }

-- one call more, up to the greatest number that can be told (own)
abbrev pub one_more : ℕ → ℕ
one_more calls = min (calls + 1) (2 ^ 64 - 1)

-- the log after one call more (own)
abbrev pub noted : LogState → Gave → LogState
noted log (gave.Bytes count) = record {
  calls = one_more log.calls;
  moved = one_more log.moved;
  interruptions = 0;
  failed = log.failed;
  refusals =
      log.refusals;
}
noted log gave.Nothing = record { calls = one_more log.calls; moved = log.moved; interruptions = 0; failed = log.failed; refusals = log.refusals }
noted log gave.Interrupted = record {
  calls = one_more log.calls;
  moved = log.moved;
  interruptions = log.interruptions + 1;
  failed = log.failed;
  refusals =
      log.refusals;
}
noted log gave.Failed = record { calls = one_more log.calls; moved = log.moved; interruptions = 0; failed = true; refusals = log.refusals }

-- a stream that failed, or was interrupted sixteen times in a row (own)
abbrev pub IsBroken : LogState → Type 0
IsBroken log = (log.failed ≡ true) ⊎ (INTERRUPTIONS_MAX ≤ log.interruptions)

-- no call failed, and there were no more than sixteen for each byte (own)
pub record IsWell (old new : LogState) (count : ℕ) : Type 0 where
  pub sound : new.failed ≡ old.failed
  pub few : new.calls ≤ old.calls + INTERRUPTIONS_MAX * count

-- the log after leave to write was asked for once more, and given or not (own)
abbrev pub asked : LogState → Bool → LogState
asked log is_given = record {
  calls = log.calls;
  moved = log.moved;
  interruptions = log.interruptions;
  failed = log.failed;
  refusals =
      if is_given then 0 else log.refusals + 1;
}

-- a writer to which no more is written: it is broken, or leave to write was refused as often as it is asked for (own)
abbrev pub IsWrittenNoMore : LogState → Type 0
IsWrittenNoMore log = IsBroken log ⊎ (REFUSALS_MAX ≤ log.refusals)

-- a stream that is read no more: it is broken, or was read as often as it may be (own)
abbrev pub IsReadNoMore : ℕ → LogState → Type 0
IsReadNoMore most log = IsBroken log ⊎ (most ≤ log.calls)

-- what a reader has left, where that is known, and its log (own)
pub record LoggedReaderState : Type 0 where
  pub remaining : Option (List ℕ)
  pub log : LogState

-- what a writer holds, where that is known, and its log (own)
pub record LoggedWriterState : Type 0 where
  pub contents : Option (List ℕ)
  pub log : LogState

-- so many bytes were read, at least one (own)
pub record Takes (old new : Option (List ℕ)) (buffer : List ℕ) (count : ℕ) : Type 0 where
  pub some : 0 < count
  pub within : count ≤ length buffer
  pub consumes : Consumes old new (take count buffer)

-- what one read gives (own)
abbrev pub Gives : Option (List ℕ) → Option (List ℕ) → List ℕ → Gave → Type 0
Gives old new buffer (gave.Bytes count) = Takes old new buffer count
Gives old new buffer gave.Nothing = Consumes old new [] × IsAtEnd new
Gives old new buffer gave.Interrupted = Consumes old new []
Gives old new buffer gave.Failed = Consumes old new []

-- one read (own)
pub record ReadsOnce (old new : LoggedReaderState) (buffer : List ℕ) (found : Gave) : Type 0 where
  pub gives : Gives old.remaining new.remaining buffer found
  pub log : new.log ≡ noted old.log found

-- so many bytes were written, at least one (own)
pub record SomeWritten (old new : Option (List ℕ)) (bytes : List ℕ) (count : ℕ) : Type 0 where
  pub some : 0 < count
  pub within : count ≤ length bytes
  pub appends : Appends old new (take count bytes)

-- so many bytes were written (own)
pub record WritesFront (old new : Option (List ℕ)) (bytes : List ℕ) (count : ℕ) : Type 0 where
  pub within : count ≤ length bytes
  pub appends : Appends old new (take count bytes)

-- all of these bytes were written, and no write failed (own)
pub record Writes (old new : LoggedWriterState) (bytes : List ℕ) : Type 0 where
  pub appends : Appends old.contents new.contents bytes
  pub well : IsWell old.log new.log (length bytes)

-- nothing was written, and the writer is broken (own)
pub record WritesNone (old new : LoggedWriterState) : Type 0 where
  pub keeps : Keeps old.contents new.contents
  pub broken : IsBroken new.log
