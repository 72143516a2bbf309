-- A stream that is read piece by piece, and what takes the pieces (own).
use Rattle.std.specs.Prelude.{◌≡◌, ℕ, ◌+◌, ◌-◌, ◌^◌, ◌≤◌, min, List, ◌++◌, Option, None, Some, length}
use Rattle.std.specs.Io.KnownBytes.{Consumes, IsAtEnd}
use Rattle.logged_streams.specs.Streams.{LogState, LoggedReaderState, IsReadNoMore}
use Rattle.logged_streams.specs.declared.reading.ReadEnd.{ReadEnd}
use Rattle.logged_streams.specs.declared.reading.ReadEnd.TheVariants as end

-- how many bytes are taken of one stream, at the most (own)
abbrev pub taken_max : ℕ
taken_max = 2 ^ 62

-- some bytes were taken since taker and output were so, and so many more may come (own)
pub record MayTake {O T : Type 0} (Taken : T → O → T → O → List ℕ → Type 0) (taker : T) (out : O) (more : ℕ) : Type 0 where
  pub first : T
  pub was : O
  pub input : List ℕ
  pub taken : Taken first was taker out input
  pub few : length input + more ≤ taken_max

-- these bytes were taken, and more may be, or this was told of them (own)
abbrev pub GoesOn : {O T A : Type 0} → (T → O → T → O → List ℕ → Type 0) → (T → O → T → O → List ℕ → A → Type 0) → T → O → T → O → List ℕ → Option A → Type 0
GoesOn Taken Told first was taker out bytes None = Taken first was taker out bytes
GoesOn Taken Told first was taker out bytes (Some told) = Told first was taker out bytes told

-- a piece more, after whatever bytes were taken (own)
abbrev pub TakesPiece : {O T A : Type 0} → (T → O → T → O → List ℕ → Type 0) → (T → O → T → O → List ℕ → A → Type 0) → List ℕ → T → O → T → O → Option A →
    Type 0
TakesPiece {O} {T} Taken Told piece old out new after found =
    (first : T) (was : O) (input : List ℕ) → Taken first was old out input → length input + length piece ≤ taken_max →
    GoesOn Taken Told first was new after (input ++ piece) found

-- so many calls more, up to the greatest number that can be told (own)
abbrev pub more_calls : ℕ → LogState → ℕ
more_calls more log = min (log.calls + more) (2 ^ 64 - 1)

-- why no more is read, and what was taken by then (own)
abbrev pub EndsBy : {O T A : Type 0} → (T → O → T → O → List ℕ → Type 0) → (T → O → T → O → List ℕ → A → Type 0) → ℕ → LoggedReaderState → LoggedReaderState →
    T → O → T → O → List ℕ → ReadEnd A → Type 0
EndsBy Taken Told most from to first was taker out input end.AtEnd = IsAtEnd to.remaining × (to.log.failed ≡ from.log.failed) × Taken first was taker out input
EndsBy Taken Told most from to first was taker out input end.CannotRead = IsReadNoMore (more_calls most from.log) to.log × Taken first was taker out input
EndsBy Taken Told most from to first was taker out input (end.Told told) = (to.log.failed ≡ from.log.failed) × Told first was taker out input told

-- all that was read, at most so often, and what was taken of it (own)
pub record Reads {O T A : Type 0} (Taken : T → O → T → O → List ℕ → Type 0) (Told : T → O → T → O → List ℕ → A → Type 0) (most : ℕ)
    (from to : LoggedReaderState) (first : T) (was : O) (taker : T) (out : O) (found : ReadEnd A) : Type 0 where
  pub input : List ℕ
  pub consumes : Consumes from.remaining to.remaining input
  pub few : length input ≤ taken_max
  pub ends : EndsBy Taken Told most from to first was taker out input found
