-- The requests of bytes (own).
use Rattle.std.specs.Prelude.{◌≡◌, ℕ, List, ◌++◌}
use Rattle.call_types.specs.declared.request.Request.{Request}
use Rattle.frame_codec.specs.Decoding.{AreValues}
use Rattle.frame_codec.specs.Frames.{AreFrames}
use Rattle.frame_codec.specs.Requests.{SpellsRequest}
use Rattle.frame_codec.specs.declared.decoder.Progress.{Progress}
use Rattle.frame_codec.specs.declared.decoder.Progress.TheVariants as progress

-- the bytes begin with the frames of these requests
pub record Begins (input : List ℕ) (requests : List Request) : Type 0 where
  pub text : List ℕ
  pub rest : List ℕ
  pub is : input ≡ text ++ rest
  pub frames : AreFrames SpellsRequest 65792 requests text

-- these are all requests of the bytes, with the fault after them, if there is one
abbrev pub AreRequests : List ℕ → List Request → Progress → Type 0
AreRequests input requests told = AreValues SpellsRequest 65792 0 input requests told

-- a fault in frames
abbrev pub IsFault : Progress → Type 0
IsFault progress.More = ⊥
IsFault (progress.Malformed at) = Unit {0}
IsFault (progress.TooLong at) = Unit {0}
