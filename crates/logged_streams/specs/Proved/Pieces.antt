-- How a stream is read on (own).
use Rattle.std.specs.Prelude.{◌≡◌, ℕ, ◌+◌, ◌*◌, ◌<◌, ◌≤◌, List, ◌++◌, Option, None, Some, length}
use Rattle.std.specs.Io.KnownBytes.{Consumes, IsAtEnd}
use Rattle.logged_streams.specs.Streams.{LoggedReaderState, IsBroken, one_more}
use Rattle.logged_streams.specs.declared.stream_log.TheConstants.{INTERRUPTIONS_MAX}
use Rattle.logged_streams.specs.Reading.{taken_max}
use Rattle.logged_streams.specs.declared.reading.ReadEnd.{ReadEnd}
use Rattle.logged_streams.specs.declared.reading.ReadEnd.TheVariants as end

-- what one read leads to, where these bytes were taken (own)
abbrev pub LeadsTo : {O T A : Type 0} → (T → O → T → O → List ℕ → Type 0) → (T → O → T → O → List ℕ → A → Type 0) → LoggedReaderState → LoggedReaderState → T →
    O → T → O → List ℕ → Option (ReadEnd A) → Type 0
LeadsTo Taken Told from to first was taker out input None = Taken first was taker out input
LeadsTo Taken Told from to first was taker out input (Some end.AtEnd) = Taken first was taker out input
LeadsTo Taken Told from to first was taker out input (Some end.CannotRead) = Taken first was taker out input
LeadsTo Taken Told from to first was taker out input (Some (end.Told told)) = Told first was taker out input told

-- what the log says of it: it may be read on, it is at its end, or it is broken (own)
abbrev pub IsLogged : {A : Type 0} → LoggedReaderState → LoggedReaderState → Option (ReadEnd A) → Type 0
IsLogged from to None = (to.log.interruptions < INTERRUPTIONS_MAX) × (to.log.failed ≡ from.log.failed)
IsLogged from to (Some end.AtEnd) = IsAtEnd to.remaining × (to.log.failed ≡ from.log.failed)
IsLogged from to (Some end.CannotRead) = IsBroken to.log
IsLogged from to (Some (end.Told told)) = to.log.failed ≡ from.log.failed

-- one read, and what came of it (own)
pub record ReadsPiece {O T A : Type 0} (Taken : T → O → T → O → List ℕ → Type 0) (Told : T → O → T → O → List ℕ → A → Type 0) (room : ℕ)
    (from to : LoggedReaderState) (old : T) (out : O) (new : T) (after : O) (found : Option (ReadEnd A)) : Type 0 where
  pub piece : List ℕ
  pub short : length piece ≤ room
  pub consumes : Consumes from.remaining to.remaining piece
  pub calls : to.log.calls ≡ one_more from.log.calls
  pub logged : IsLogged from to found
  pub leads : (first : T) (was : O) (input : List ℕ) → Taken first was old out input → length input + room ≤ taken_max →
      LeadsTo Taken Told from to first was new after (input ++ piece) found

-- so many reads so far (own)
pub record HasRead {O T : Type 0} (Taken : T → O → T → O → List ℕ → Type 0) (room : ℕ) (from to : LoggedReaderState) (first : T) (was : O) (taker : T) (out : O)
    (turns : ℕ) : Type 0 where
  pub input : List ℕ
  pub consumes : Consumes from.remaining to.remaining input
  pub taken : Taken first was taker out input
  pub long : length input ≤ turns * room
  pub sound : to.log.failed ≡ from.log.failed
