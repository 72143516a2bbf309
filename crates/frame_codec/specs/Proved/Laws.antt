-- What holds of streams of frames, whatever they carry (own).
use Rattle.std.specs.Prelude.{◌≡◌, ℕ, ◌⊎◌, List, ◌++◌, length}
use Rattle.std.specs.List.{concat}
use Rattle.frame_codec.specs.declared.decoder.Progress.{Progress}
use Rattle.frame_codec.specs.declared.decoder.Progress.TheVariants as progress
use Rattle.frame_codec.specs.Frames.{IsFrame, IsShort, IsTooLong, IsMalformed, AreFrames}
use Rattle.frame_codec.specs.Decoding.{DecoderState, fresh, told_place, AreValues, Feeds}
use Rattle.frame_codec.specs.Proved.Filling.{FeedsAll}
use Rattle.call_types.specs.declared.act.Act.{Act}
use Rattle.call_types.specs.declared.act.Act.TheVariants as acts
use Rattle.call_types.specs.declared.call.Call.TheVariants as calls
use Rattle.call_types.specs.declared.outcome.Reply.TheVariants as replies
use Rattle.call_types.specs.declared.outcome.Outcome.{Outcome}
use Rattle.call_types.specs.declared.outcome.Outcome.TheVariants as outcomes
use Rattle.frame_codec.specs.Given.{HasGiven}

-- no value's frame begins that of another, so what was written is read again, whatever follows it
abbrev pub OneForm : {A : Type 0} → (A → List ℕ → Type 0) → ℕ → Type 0
OneForm {A} Spells most = (a b : A) (first second x y : List ℕ) → IsFrame Spells most a first → IsFrame Spells most b second → first ++ x ≡ second ++ y →
    (a ≡ b) × (first ≡ second) × (x ≡ y)

-- however a stream is cut into pieces, a decoder gives its values, and tells its fault where it has one
abbrev pub CutsDoNotMatter : {A : Type 0} → (A → List ℕ → Type 0) → ℕ → Type 0
CutsDoNotMatter {A} Spells most = (pieces : List (List ℕ)) (new : DecoderState) (values : List A) (told : Progress) →
    FeedsAll Spells most fresh new pieces values told → AreValues Spells most 0 (concat pieces) values told

-- bytes have one list of values, and one fault or none
abbrev pub OneReading : {A : Type 0} → (A → List ℕ → Type 0) → ℕ → Type 0
OneReading {A} Spells most =
    (bytes : List ℕ) (values others : List A) (told other : Progress) → AreValues Spells most 0 bytes values told → AreValues Spells most 0 bytes others other →
    (values ≡ others) × (told ≡ other)

-- and this list is the longest: any whose frames begin the bytes is the front of it
abbrev pub LongestReading : {A : Type 0} → (A → List ℕ → Type 0) → ℕ → Type 0
LongestReading {A} Spells most =
    (bytes : List ℕ) (values others : List A) (told : Progress) (text rest : List ℕ) → AreValues Spells most 0 bytes values told →
    AreFrames Spells most others text → bytes ≡ text ++ rest
    → (more : List A) × (values ≡ others ++ more)

-- where bytes are the frames of values, what is read of any front of them has no fault, and is a front of the values
abbrev pub FrontReads : {A : Type 0} → (A → List ℕ → Type 0) → ℕ → Type 0
FrontReads {A} Spells most =
    (all values : List A) (read left : List ℕ) (told : Progress) → AreFrames Spells most all (read ++ left) → AreValues Spells most 0 read values told
    → (told ≡ progress.More) × (more : List A) × (all ≡ values ++ more)

-- bytes that are too few for a frame, or that begin with one at fault, do not begin with a value's frame
abbrev pub NoFrameThere : {A : Type 0} → (A → List ℕ → Type 0) → ℕ → Type 0
NoFrameThere {A} Spells most =
    (value : A) (first more : List ℕ) → IsFrame Spells most value first →
    IsShort most (first ++ more) ⊎ (IsMalformed Spells most (first ++ more) ⊎ IsTooLong most (first ++ more)) → ⊥

-- the fault with which bytes begin, before which there were so many
abbrev pub IsFault : {A : Type 0} → (A → List ℕ → Type 0) → ℕ → List ℕ → ℕ → Progress → Type 0
IsFault Spells most bytes before progress.More = ⊥
IsFault Spells most bytes before (progress.Malformed at) = IsMalformed Spells most bytes × (at ≡ told_place before)
IsFault Spells most bytes before (progress.TooLong at) = IsTooLong most bytes × (at ≡ told_place before)

-- these values of a stream are given, and after their frames comes the fault that is told
pub record HasEnded {A : Type 0} (Spells : A → List ℕ → Type 0) (most : ℕ) (stream : List ℕ) (values : List A) (told : Progress) : Type 0 where
  pub text : List ℕ
  pub rest : List ℕ
  pub is : stream ≡ text ++ rest
  pub frames : AreFrames Spells most values text
  pub fault : IsFault Spells most rest (length text) told

-- what a decoder gave of a stream, by what it tells
abbrev pub Gave : {A : Type 0} → (A → List ℕ → Type 0) → ℕ → List ℕ → List A → DecoderState → Progress → Type 0
Gave Spells most stream values decoder progress.More = HasGiven Spells most stream values decoder
Gave Spells most stream values decoder fault = HasEnded Spells most stream values fault

-- a decoder that gave the values of a stream gives those of the stream and a piece more
abbrev pub PiecesGoOn : {A : Type 0} → (A → List ℕ → Type 0) → ℕ → Type 0
PiecesGoOn {A} Spells most =
    (stream piece : List ℕ) (values more : List A) (old new : DecoderState) (told : Progress) → HasGiven Spells most stream values old →
    Feeds Spells most old new piece more told
    → Gave Spells most (stream ++ piece) (values ++ more) new told

-- an act that may be answered with data: a read, or a parked call that is taken up again
abbrev pub MayRead : Act → Type 0
MayRead (acts.Call (calls.Read fd count)) = Unit {0}
MayRead (acts.Call (calls.Pread fd start count)) = Unit {0}
MayRead acts.Resume = Unit {0}
MayRead other = ⊥

-- an outcome that is no data, or that of an act that may be answered with data
abbrev pub DataIsRead : Act → Outcome → Type 0
DataIsRead act (outcomes.Reply (replies.Data bytes)) = MayRead act
DataIsRead act other = Unit {0}
