-- One write of some bytes (own).
use Rattle.std.specs.Prelude.{◌≡◌, ℕ, List, Option}
use Rattle.std.specs.Io.KnownBytes.{Keeps}
use Rattle.logged_streams.specs.declared.stream_log.Gave.{Gave}
use Rattle.logged_streams.specs.declared.stream_log.Gave.TheVariants as gave
use Rattle.logged_streams.specs.Streams.{noted, LoggedWriterState, SomeWritten}

-- what one write takes; one that takes none has failed (own)
abbrev pub TakesSome : Option (List ℕ) → Option (List ℕ) → List ℕ → Gave → Type 0
TakesSome old new bytes (gave.Bytes count) = SomeWritten old new bytes count
TakesSome old new bytes gave.Nothing = ⊥
TakesSome old new bytes gave.Interrupted = Keeps old new
TakesSome old new bytes gave.Failed = Keeps old new

-- one write (own)
pub record WritesOnce (old new : LoggedWriterState) (bytes : List ℕ) (found : Gave) : Type 0 where
  pub takes : TakesSome old.contents new.contents bytes found
  pub log : new.log ≡ noted old.log found
