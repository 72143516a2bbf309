-- Frames, one after another, until no further one begins or the taker of their values has enough.
use Rattle.std.proofs.Common.{ℕ, ◌+◌, ◌^◌, ◌<◌, ◌≤◌, Bool, true, false, List, [], ◌∷◌, ◌++◌, length, take, drop, refl, sym, ap, subst, ◌∙◌, append_assoc, arith}
use Rattle.std.proofs.Math.Seq.{take-add}
use Rattle.std.proofs.lemmas.List.{append-nil, length-drop, length-take, take-append-drop}
use Rattle.frame_codec.specs.declared.begun.Stop.{Stop}
use Rattle.frame_codec.specs.declared.decoder.Read.TheVariants as reads
use Rattle.frame_codec.specs.Frames.{IsFrame, AreFrames, StopsWith}
use Rattle.frame_codec.specs.Proved.Filling.{IsWhole, HoldsRest, ReadsTo}
use Rattle.frame_codec.specs.Taking.{TakesEach, HasEnough}

-- the values so far are those of the frames so far, and each was taken
pub record ReadSoFar {A T : Type 0} (Spells : A → List ℕ → Type 0) (most : ℕ) (takes : T → T → A → Bool → Type 0) (bytes : List ℕ) (old now : T)
    (used : ℕ) : Type 0 where
  pub values : List A
  pub within : used ≤ length bytes
  pub frames : AreFrames Spells most values (take used bytes)
  pub taken : TakesEach takes old now values

-- a frame after others
pub one_more : {A : Type 0} (Spells : A → List ℕ → Type 0) (most : ℕ) (values : List A) (value : A) (text first : List ℕ) → AreFrames Spells most values text →
    IsFrame Spells most value first
    → AreFrames Spells most (values ++ value ∷ []) (text ++ first)
one_more Spells most [] value text first h k = (first, [], ap (λ (front : List ℕ). front ++ first) h ∙ sym (append-nil first), k, refl)
one_more Spells most (v ∷ values) value text first h k =
    (h.0, h.1 ++ first, ap (λ (bytes : List ℕ). bytes ++ first) h.2 ∙ append_assoc h.0 h.1 first, h.3, one_more Spells most values value h.1 first h.4 k)

-- a value after others
take_more : {T V : Type 0} (takes : T → T → V → Bool → Type 0) (old mid new : T) (values : List V) (value : V) → TakesEach takes old mid values →
    takes mid new value true
    → TakesEach takes old new (values ++ value ∷ [])
take_more {T} takes old mid new [] value e k = (new, subst (λ (from : T). takes from new value true) e k, refl)
take_more takes old mid new (v ∷ values) value h k = (h.0, h.1, take_more takes h.0 mid new values value h.2 k)

more_frames : {A T : Type 0} (Spells : A → List ℕ → Type 0) (most : ℕ) (takes : T → T → A → Bool → Type 0) (bytes : List ℕ) (old now : T) (used : ℕ) (value : A)
    (len : ℕ)
    → (h : ReadSoFar Spells most takes bytes old now used) → IsWhole Spells most value len (drop used bytes) → AreFrames Spells most (h.values ++ value ∷ [])
    (take (used + len) bytes)
more_frames Spells most takes bytes old now used value len h k =
    subst (λ (text : List ℕ). AreFrames Spells most (h.values ++ value ∷ []) text) (sym (take-add used len bytes))
    (one_more Spells most h.values value (take used bytes) (take len (drop used bytes)) h.frames k.first)

pub next_read : {A T : Type 0} (Spells : A → List ℕ → Type 0) (most : ℕ) (takes : T → T → A → Bool → Type 0) (bytes : List ℕ) (old now new : T) (used : ℕ)
    (value : A) (len : ℕ)
    → ReadSoFar Spells most takes bytes old now used → IsWhole Spells most value len (drop used bytes) → takes now new value true →
    ReadSoFar Spells most takes bytes old new (used + len)
next_read Spells most takes bytes old now new used value len h k t = record {
  values = h.values ++ value ∷ [];
  within = omega (arith, h.within, k.within, length-drop used bytes);
  frames = more_frames Spells most takes bytes old now used value len h k;
  taken = take_more takes old now new h.values value h.taken t;
}

pub last_read : {A T : Type 0} (Spells : A → List ℕ → Type 0) (most : ℕ) (takes : T → T → A → Bool → Type 0) (bytes : List ℕ) (old now new : T) (used : ℕ)
    (value : A) (len : ℕ)
    → ReadSoFar Spells most takes bytes old now used → IsWhole Spells most value len (drop used bytes) → takes now new value false →
    HasEnough Spells most takes bytes old new
last_read Spells most takes bytes old now new used value len h k t = record {
  values = h.values ++ value ∷ [];
  text = take (used + len) bytes;
  rest = drop (used + len) bytes;
  is = sym (take-append-drop (used + len) bytes);
  frames = more_frames Spells most takes bytes old now used value len h k;
  taken = record { before = h.values; last = value; mid = now; are = refl; each = h.taken; ends = t };
}

pub stopped : {A T : Type 0} (Spells : A → List ℕ → Type 0) (most : ℕ) (takes : T → T → A → Bool → Type 0) (bytes held : List ℕ) (old now : T) (used : ℕ)
    (stop : Stop)
    → used < 2 ^ 64 → ReadSoFar Spells most takes bytes old now used → StopsWith Spells most (drop used bytes) stop → HoldsRest held (drop used bytes) stop
    → ReadsTo Spells most takes bytes held old now (reads.Up used stop)
stopped Spells most takes bytes held old now used stop small h k rests = (
  h.values,
  record {
    text = take used bytes;
    rest = drop used bytes;
    is = sym (take-append-drop used bytes);
    frames = h.frames;
    stops = k;
    holds = rests;
    long = omega (arith, h.within, length-take used bytes, small);
  },
  h.taken,
)
