-- Decoding a stream that comes in pieces (own).
use Rattle.std.specs.Prelude.{◌≡◌, ℕ, ◌+◌, ◌-◌, ◌^◌, min, List, [], ◌++◌, length}
use Rattle.frame_codec.specs.Frames.{AreFrames, StopsWith}
use Rattle.frame_codec.specs.declared.begun.Stop.{Stop}
use Rattle.frame_codec.specs.declared.begun.Stop.TheVariants as stops
use Rattle.frame_codec.specs.declared.decoder.Progress.{Progress}
use Rattle.frame_codec.specs.declared.decoder.Progress.TheVariants as progress

-- a count of bytes as it is told: the greatest that can be told stands for those past it
abbrev pub told_place : ℕ → ℕ
told_place n = min n (2 ^ 64 - 1)

-- what a decoder keeps between two pieces: how many bytes of the stream were before the held ones, these, and whether it goes on
pub record DecoderState : Type 0 where
  pub before : ℕ
  pub held : List ℕ
  pub progress : Progress

-- nothing came yet
abbrev pub fresh : DecoderState
fresh = record { before = 0; held = []; progress = progress.More }

-- what is told after a stop, before which there were so many bytes
abbrev pub told_progress : ℕ → Stop → Progress
told_progress before stops.Short = progress.More
told_progress before stops.Malformed = progress.Malformed before
told_progress before stops.TooLong = progress.TooLong before

-- the values of bytes that come after so many others: frames from the first byte on, up to where no further one begins
pub record AreValues {A : Type 0} (Spells : A → List ℕ → Type 0) (most before : ℕ) (bytes : List ℕ) (values : List A) (told : Progress) : Type 0 where
  pub text : List ℕ
  pub rest : List ℕ
  pub stop : Stop
  pub is : bytes ≡ text ++ rest
  pub frames : AreFrames Spells most values text
  pub stops : StopsWith Spells most rest stop
  pub tells : told ≡ told_progress (told_place (before + length text)) stop

-- what is kept after a stop, where it matters
abbrev pub GoesFrom : DecoderState → ℕ → List ℕ → Stop → Type 0
GoesFrom new before rest stops.Short = (new.before ≡ told_place before) × (new.held ≡ rest)
GoesFrom new before rest fault = Unit {0}

-- a decoder without a fault reads on
pub record GoesOn {A : Type 0} (Spells : A → List ℕ → Type 0) (most : ℕ) (old new : DecoderState) (piece : List ℕ) (values : List A)
    (told : Progress) : Type 0 where
  pub are : AreValues Spells most old.before (old.held ++ piece) values told
  pub holds : GoesFrom new (old.before + length are.text) are.rest are.stop
  pub stays : new.progress ≡ told

-- a decoder with a fault stays as it is
pub record StaysSo {A : Type 0} (old new : DecoderState) (values : List A) (told : Progress) : Type 0 where
  pub same : new ≡ old
  pub none : values ≡ []
  pub tells : told ≡ old.progress

-- a piece more, for a decoder that so far tells this
abbrev pub FeedsFrom : {A : Type 0} → (A → List ℕ → Type 0) → ℕ → Progress → DecoderState → DecoderState → List ℕ → List A → Progress → Type 0
FeedsFrom Spells most progress.More old new piece values told = GoesOn Spells most old new piece values told
FeedsFrom Spells most fault old new piece values told = StaysSo old new values told

-- a piece more
abbrev pub Feeds : {A : Type 0} → (A → List ℕ → Type 0) → ℕ → DecoderState → DecoderState → List ℕ → List A → Progress → Type 0
Feeds Spells most old new piece values told = FeedsFrom Spells most old.progress old new piece values told
