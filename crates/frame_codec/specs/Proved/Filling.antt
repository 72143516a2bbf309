-- How a decoder holds the beginning of a frame, and completes it (own).
use Rattle.std.specs.Prelude.{◌≡◌, Bool, true, ℕ, ◌+◌, ◌≤◌, ◌<◌, ◌⊎◌, List, [], ◌∷◌, ◌++◌, length, take}
use Rattle.frame_codec.specs.Frames.{told_length, IsShort, IsTooLong, AreFrames, StopsWith, IsFrame}
use Rattle.frame_codec.specs.declared.begun.Stop.{Stop}
use Rattle.frame_codec.specs.declared.begun.Stop.TheVariants as stops
use Rattle.frame_codec.specs.declared.decoder.Progress.{Progress}
use Rattle.frame_codec.specs.declared.decoder.Progress.TheVariants as progress
use Rattle.frame_codec.specs.declared.decoder.Read.{Read}
use Rattle.frame_codec.specs.declared.decoder.Read.TheVariants as reads
use Rattle.frame_codec.specs.Decoding.{told_place, DecoderState, Feeds}
use Rattle.frame_codec.specs.Taking.{TakesAll, HasEnough}
use Rattle.frame_codec.specs.declared.begun.Begins.{Begins}
use Rattle.frame_codec.specs.declared.begun.Begins.TheVariants as begins

-- what is held is no frame yet
abbrev pub RestsOn : ℕ → List ℕ → Progress → Type 0
RestsOn most held progress.More = IsShort most held
RestsOn most held fault = Unit {0}

-- so many bytes of a piece are added to the old ones
pub record Takes (old new piece : List ℕ) (taken : ℕ) : Type 0 where
  pub within : taken ≤ length piece
  pub is : new ≡ old ++ take taken piece

-- until there are so many, or the piece ends
pub record Fills (old new piece : List ℕ) (len taken : ℕ) : Type 0 where
  pub takes : Takes old new piece taken
  pub ends : (length new ≡ len) ⊎ ((taken ≡ length piece) × (length new < len))

-- until the length can be told, or the piece ends
pub record FillsHead (old new piece : List ℕ) (taken : ℕ) : Type 0 where
  pub takes : Takes old new piece taken
  pub ends : (4 ≤ length new) ⊎ ((taken ≡ length piece) × (length new < 4))
  pub few : (length new ≤ 4) ⊎ (new ≡ old)

-- as many bytes as the length tells
abbrev pub IsComplete : ℕ → List ℕ → Type 0
IsComplete most bytes = (told_length bytes ≤ most) × (length bytes ≡ 4 + told_length bytes)

-- until the first frame is complete or too long, or the piece ends
pub record Completes (most : ℕ) (old new piece : List ℕ) (taken : ℕ) : Type 0 where
  pub takes : Takes old new piece taken
  pub ends : ((taken ≡ length piece) × IsShort most new) ⊎ (IsTooLong most new ⊎ IsComplete most new)

-- what is held after a stop, where it matters
abbrev pub HoldsRest : List ℕ → List ℕ → Stop → Type 0
HoldsRest held rest stops.Short = held ≡ rest
HoldsRest held rest fault = Unit {0}

-- the values of bytes, what is held of these, and how many bytes the values' frames have
pub record ReadsIn {A : Type 0} (Spells : A → List ℕ → Type 0) (most : ℕ) (bytes held : List ℕ) (values : List A) (used : ℕ) (stop : Stop) : Type 0 where
  pub text : List ℕ
  pub rest : List ℕ
  pub is : bytes ≡ text ++ rest
  pub frames : AreFrames Spells most values text
  pub stops : StopsWith Spells most rest stop
  pub holds : HoldsRest held rest stop
  pub long : used ≡ told_place (length text)

-- how far bytes were read whose values a taker is handed: up to where no further frame begins, or until it had enough
abbrev pub ReadsTo : {A T : Type 0} → (A → List ℕ → Type 0) → ℕ → (T → T → A → Bool → Type 0) → List ℕ → List ℕ → T → T → Read → Type 0
ReadsTo {A} Spells most takes bytes held old new (reads.Up used stop) = (values : List A) × ReadsIn Spells most bytes held values used stop × TakesAll takes old
    new values true
ReadsTo Spells most takes bytes held old new reads.Enough = HasEnough Spells most takes bytes old new

-- how far bytes were read, with a frame of so many bytes before them
abbrev pub further : Read → ℕ → Read
further (reads.Up used stop) len = reads.Up (told_place (used + len)) stop
further reads.Enough len = reads.Enough

-- pieces, one after another: all their values, and what is told at the end
abbrev pub FeedsAll : {A : Type 0} → (A → List ℕ → Type 0) → ℕ → DecoderState → DecoderState → List (List ℕ) → List A → Progress → Type 0
FeedsAll Spells most old new [] values told = (new ≡ old) × (values ≡ []) × (told ≡ old.progress)
FeedsAll {A = A} Spells most old new (piece ∷ pieces) values told =
    (mid : DecoderState) × (first : List A) × (others : List A) × (so_far : Progress)
    × Feeds Spells most old mid piece first so_far × FeedsAll Spells most mid new pieces others told × (values ≡ first ++ others)

-- bytes that begin with the frame of a value, so many bytes of them
pub record IsWhole {A : Type 0} (Spells : A → List ℕ → Type 0) (most : ℕ) (value : A) (len : ℕ) (bytes : List ℕ) : Type 0 where
  pub within : len ≤ length bytes
  pub long : len ≡ 4 + told_length bytes
  pub few : told_length bytes ≤ most
  pub first : IsFrame Spells most value (take len bytes)

-- how bytes begin
abbrev pub Begun : {A : Type 0} → (A → List ℕ → Type 0) → ℕ → List ℕ → Begins A → Type 0
Begun Spells most bytes (begins.Whole value len) = IsWhole Spells most value len bytes
Begun Spells most bytes (begins.Stopped stop) = StopsWith Spells most bytes stop
