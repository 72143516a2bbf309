-- What a decoder gave of a stream (own).
use Rattle.std.specs.Prelude.{◌≡◌, ℕ, List, ◌++◌, length}
use Rattle.frame_codec.specs.declared.decoder.Progress.TheVariants as progress
use Rattle.frame_codec.specs.Frames.{IsShort, AreFrames}
use Rattle.frame_codec.specs.Decoding.{DecoderState, told_place}

-- a decoder without a fault gave these values of a stream, and holds the bytes after their frames
pub record HasGiven {A : Type 0} (Spells : A → List ℕ → Type 0) (most : ℕ) (stream : List ℕ) (values : List A) (decoder : DecoderState) : Type 0 where
  pub text : List ℕ
  pub is : stream ≡ text ++ decoder.held
  pub frames : AreFrames Spells most values text
  pub short : IsShort most decoder.held
  pub before : decoder.before ≡ told_place (length text)
  pub goes_on : decoder.progress ≡ progress.More
