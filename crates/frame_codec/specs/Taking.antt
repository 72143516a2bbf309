-- Values that a taker is handed one after another, and a piece of a stream whose values it is handed (own).
use Rattle.std.specs.Prelude.{◌≡◌, ℕ, Bool, true, false, List, [], ◌∷◌, ◌++◌}
use Rattle.frame_codec.specs.Frames.{AreFrames}
use Rattle.frame_codec.specs.Decoding.{DecoderState, Feeds}
use Rattle.frame_codec.specs.declared.decoder.FedTo.{FedTo}
use Rattle.frame_codec.specs.declared.decoder.FedTo.TheVariants as fed
use Rattle.frame_codec.specs.declared.decoder.Progress.TheVariants as progress

-- each of these values was taken, and after it more was wanted
abbrev pub TakesEach : {T V : Type 0} → (T → T → V → Bool → Type 0) → T → T → List V → Type 0
TakesEach takes old new [] = new ≡ old
TakesEach {T} takes old new (value ∷ values) = (mid : T) × takes old mid value true × TakesEach takes mid new values

-- these values were taken, and after the last of them no more was wanted
pub record TakesLast {T V : Type 0} (takes : T → T → V → Bool → Type 0) (old new : T) (values : List V) : Type 0 where
  pub before : List V
  pub last : V
  pub mid : T
  pub are : values ≡ before ++ last ∷ []
  pub each : TakesEach takes old mid before
  pub ends : takes mid new last false

-- all of these values were taken, and then more was wanted or not
abbrev pub TakesAll : {T V : Type 0} → (T → T → V → Bool → Type 0) → T → T → List V → Bool → Type 0
TakesAll takes old new values true = TakesEach takes old new values
TakesAll takes old new values false = TakesLast takes old new values

-- a taker took the values of the frames with which bytes begin, and then wanted no more
pub record HasEnough {A T : Type 0} (Spells : A → List ℕ → Type 0) (most : ℕ) (takes : T → T → A → Bool → Type 0) (bytes : List ℕ) (old new : T) : Type 0 where
  pub values : List A
  pub text : List ℕ
  pub rest : List ℕ
  pub is : bytes ≡ text ++ rest
  pub frames : AreFrames Spells most values text
  pub taken : TakesAll takes old new values false

-- a piece more, whose values a taker is handed: it took all, or had enough, and then nothing is said of the decoder
abbrev pub FeedsTo : {A T : Type 0} → (A → List ℕ → Type 0) → ℕ → (T → T → A → Bool → Type 0) → DecoderState → DecoderState → List ℕ → T → T → FedTo → Type 0
FeedsTo {A} Spells most takes old new piece before after (fed.All told) = (values : List A) × Feeds Spells most old new piece values told × TakesAll takes
    before after values true
FeedsTo Spells most takes old new piece before after fed.Enough = (old.progress ≡ progress.More) × HasEnough Spells most takes (old.held ++ piece) before after
