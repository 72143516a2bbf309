-- A piece after what is held: the values of both together.
use Rattle.std.proofs.Common.{◌≡◌, ℕ, ◌+◌, ◌≤◌, Bool, true, false, List, [], ◌∷◌, ◌++◌, length, take, drop, refl, sym, ap, subst, ◌∙◌, append_assoc, arith, inl, inr}
use Rattle.std.specs.Int.{w32, from_be_bytes}
use Rattle.std.proofs.lemmas.List.{append-nil, length-append, length-drop, take-append-drop, take-append-le, drop-append-le, take_all}
use Rattle.frame_codec.specs.declared.begun.Stop.{Stop}
use Rattle.frame_codec.specs.declared.begun.Stop.TheVariants as stops
use Rattle.frame_codec.specs.declared.decoder.Progress.{Progress}
use Rattle.frame_codec.specs.declared.decoder.Progress.TheVariants as progress
use Rattle.frame_codec.specs.Frames.{told_length, told_payload, IsFrame, IsShort, IsTooLong, IsMalformed, StopsWith}
use Rattle.frame_codec.specs.declared.decoder.FedTo.TheVariants as fed
use Rattle.frame_codec.specs.declared.decoder.Read.{Read}
use Rattle.frame_codec.specs.declared.decoder.Read.TheVariants as reads
use Rattle.frame_codec.specs.Proved.Filling.{IsWhole, Completes, HoldsRest, ReadsTo, further}
use Rattle.frame_codec.specs.Taking.{HasEnough, FeedsTo}
use Rattle.frame_codec.specs.Decoding.{DecoderState, told_place, told_progress, GoesFrom, FeedsFrom}

-- ---- more bytes change neither a length that is told nor a payload that is there

same_length : (bytes more : List ℕ) → 4 ≤ length bytes → told_length (bytes ++ more) ≡ told_length bytes
same_length bytes more there = ap (λ (head : List ℕ). from_be_bytes w32 head) (take-append-le 4 bytes more there)

same_payload : (bytes more : List ℕ) → 4 + told_length bytes ≤ length bytes → told_payload (bytes ++ more) ≡ told_payload bytes
same_payload bytes more there =
    ap (λ (n : ℕ). take n (drop 4 (bytes ++ more))) (same_length bytes more (omega arith))
    ∙ ap (λ (rest : List ℕ). take (told_length bytes) rest) (drop-append-le 4 bytes more (omega arith))
    ∙ take-append-le (told_length bytes) (drop 4 bytes) more (omega (arith, length-drop 4 bytes))

pub stays_malformed : {A : Type 0} (Spells : A → List ℕ → Type 0) (most : ℕ) (bytes more : List ℕ) → IsMalformed Spells most bytes →
    IsMalformed Spells most (bytes ++ more)
stays_malformed Spells most bytes more h = record {
  few = omega (arith, h.few, same_length bytes more (omega (arith, h.there)));
  there = omega (arith, h.there, same_length bytes more (omega (arith, h.there)), length-append bytes more);
  none = λ value spelled. h.none value (subst (λ (payload : List ℕ). Spells value payload) (same_payload bytes more h.there) spelled);
}

pub stays_too_long : (most : ℕ) (bytes more : List ℕ) → IsTooLong most bytes → IsTooLong most (bytes ++ more)
stays_too_long most bytes more h = (omega (arith, h.0, length-append bytes more), omega (arith, h.1, same_length bytes more h.0))

-- ---- what was held and a piece

-- what is held now and what is left of the piece
joined : (most : ℕ) (old new piece : List ℕ) (taken : ℕ) → Completes most old new piece taken → new ++ drop taken piece ≡ old ++ piece
joined most old new piece taken h =
    ap (λ (front : List ℕ). front ++ drop taken piece) h.takes.is
    ∙ append_assoc old (take taken piece) (drop taken piece)
    ∙ ap (λ (text : List ℕ). old ++ text) (take-append-drop taken piece)

-- all of a piece is held
all_taken : (most : ℕ) (old new piece : List ℕ) (taken : ℕ) → Completes most old new piece taken → taken ≡ length piece → new ≡ old ++ piece
all_taken most old new piece taken h e = h.takes.is ∙ ap (λ (text : List ℕ). old ++ text) (take_all taken piece (omega arith))

-- where what is held is no frame yet, it is all there is
all_held : (most : ℕ) (old new piece : List ℕ) (taken : ℕ) → Completes most old new piece taken → IsShort most new → new ≡ old ++ piece
all_held most old new piece taken h short =
    elim h.ends [
      | inl all ↦ all_taken most old new piece taken h all.0
      | inr ended ↦
          elim ended [
            | inl long ↦
                elim short [
                  | inl few ↦ absurd (omega (arith, long.0))
                  | inr there ↦ absurd (omega (arith, long.1, there.1))
                ]
            | inr whole ↦
                elim short [
                  | inl few ↦ absurd (omega (arith, whole.1))
                  | inr there ↦ absurd (omega (arith, whole.1, there.2))
                ]
          ]
    ]

rest_stops : {A : Type 0} (Spells : A → List ℕ → Type 0) (most : ℕ) (old new piece : List ℕ) (taken : ℕ) (stop : Stop) → Completes most old new piece taken
    → StopsWith Spells most new stop → StopsWith Spells most (old ++ piece) stop
rest_stops Spells most old new piece taken stops.Short h k = subst (λ (bytes : List ℕ). IsShort most bytes) (all_held most old new piece taken h k) k
rest_stops Spells most old new piece taken stops.Malformed h k =
    subst (λ (bytes : List ℕ). IsMalformed Spells most bytes) (joined most old new piece taken h) (stays_malformed Spells most new (drop taken piece) k)
rest_stops Spells most old new piece taken stops.TooLong h k =
    subst (λ (bytes : List ℕ). IsTooLong most bytes) (joined most old new piece taken h) (stays_too_long most new (drop taken piece) k)

rest_held : {A : Type 0} (Spells : A → List ℕ → Type 0) (most : ℕ) (old new piece : List ℕ) (taken : ℕ) (stop : Stop) → Completes most old new piece taken
    → StopsWith Spells most new stop → HoldsRest new (old ++ piece) stop
rest_held Spells most old new piece taken stops.Short h k = all_held most old new piece taken h k
rest_held Spells most old new piece taken stops.Malformed h k = tt
rest_held Spells most old new piece taken stops.TooLong h k = tt

-- no frame is complete
pub reads_none : {A T : Type 0} (Spells : A → List ℕ → Type 0) (most : ℕ) (takes : T → T → A → Bool → Type 0) (old new piece : List ℕ) (taken : ℕ) (taker : T)
    (stop : Stop)
    → Completes most old new piece taken → StopsWith Spells most new stop → ReadsTo Spells most takes (old ++ piece) new taker taker (reads.Up 0 stop)
reads_none Spells most takes old new piece taken taker stop h k = (
  [],
  record {
    text = [];
    rest = old ++ piece;
    is = refl;
    frames = refl;
    stops = rest_stops Spells most old new piece taken stop h k;
    holds = rest_held Spells most old new piece taken stop h k;
    long = refl;
  },
  refl,
)

-- the first frame is all that is held
one_frame : {A : Type 0} (Spells : A → List ℕ → Type 0) (most : ℕ) (old new piece : List ℕ) (taken : ℕ) (value : A) (len : ℕ) →
    Completes most old new piece taken
    → IsWhole Spells most value len new → length new ≡ len
one_frame Spells most old new piece taken value len h k =
    elim h.ends [
      | inl all ↦
          elim all.1 [
            | inl few ↦ absurd (omega (arith, k.within, k.long))
            | inr there ↦ absurd (omega (arith, k.within, k.long, there.2))
          ]
      | inr ended ↦
          elim ended [
            | inl long ↦ absurd (omega (arith, k.few, long.1))
            | inr whole ↦ omega (arith, k.long, whole.1)
          ]
    ]

-- the first frame
first_frame : {A : Type 0} (Spells : A → List ℕ → Type 0) (most : ℕ) (old new piece : List ℕ) (taken : ℕ) (value : A) (len : ℕ) →
    Completes most old new piece taken
    → IsWhole Spells most value len new → IsFrame Spells most value new
first_frame Spells most old new piece taken value len h k =
    let long : length new ≡ len = one_frame Spells most old new piece taken value len h k in
    subst (λ (text : List ℕ). IsFrame Spells most value text) (take_all len new (omega arith)) k.first

-- the first frame, frames in the rest of the piece, and what comes after them
joined_more : (most : ℕ) (old new piece text rest : List ℕ) (taken : ℕ) → Completes most old new piece taken → drop taken piece ≡ text ++ rest →
    old ++ piece ≡ (new ++ text) ++ rest
joined_more most old new piece text rest taken h is =
    sym (joined most old new piece taken h) ∙ ap (λ (bytes : List ℕ). new ++ bytes) is ∙ sym (append_assoc new text rest)

-- the first frame, after whose value no more is wanted
pub enough_at_first : {A T : Type 0} (Spells : A → List ℕ → Type 0) (most : ℕ) (takes : T → T → A → Bool → Type 0) (old new piece : List ℕ) (taken : ℕ)
    (value : A) (len : ℕ) (before after : T)
    → Completes most old new piece taken → IsWhole Spells most value len new → takes before after value false →
    HasEnough Spells most takes (old ++ piece) before after
enough_at_first Spells most takes old new piece taken value len before after h k takes_it = record {
  values = value ∷ [];
  text = new;
  rest = drop taken piece;
  is = sym (joined most old new piece taken h);
  frames = (new, [], sym (append-nil new), first_frame Spells most old new piece taken value len h k, refl);
  taken = record { before = []; last = value; mid = before; are = refl; each = refl; ends = takes_it };
}

-- the first frame, and those in the rest of the piece
pub reads_more : {A T : Type 0} (Spells : A → List ℕ → Type 0) (most : ℕ) (takes : T → T → A → Bool → Type 0) (old new piece held : List ℕ) (taken : ℕ)
    (value : A) (len : ℕ) (before mid after : T) (read : Read)
    → Completes most old new piece taken → IsWhole Spells most value len new → takes before mid value true →
    ReadsTo Spells most takes (drop taken piece) held mid after read
    → ReadsTo Spells most takes (old ++ piece) held before after (further read len)
reads_more Spells most takes old new piece held taken value len before mid after (reads.Up used stop) h k takes_it m =
    let r = m.1 in
    let long : length new ≡ len = one_frame Spells most old new piece taken value len h k in (
      value ∷ m.0,
      record {
        text = new ++ r.text;
        rest = r.rest;
        is = joined_more most old new piece r.text r.rest taken h r.is;
        frames = (new, r.text, refl, first_frame Spells most old new piece taken value len h k, r.frames);
        stops = r.stops;
        holds = r.holds;
        long = omega (arith, long, r.long, length-append new r.text);
      },
      (mid, takes_it, m.2),
    )
reads_more {A} Spells most takes old new piece held taken value len before mid after reads.Enough h k takes_it m = record {
  values = value ∷ m.values;
  text = new ++ m.text;
  rest = m.rest;
  is = joined_more most old new piece m.text m.rest taken h m.is;
  frames = (new, m.text, refl, first_frame Spells most old new piece taken value len h k, m.frames);
  taken = record {
    before = value ∷ m.taken.before;
    last = m.taken.last;
    mid = m.taken.mid;
    are = ap (λ (values : List A). value ∷ values) m.taken.are;
    each = (mid, takes_it, m.taken.each);
    ends = m.taken.ends;
  };
}

-- ---- the decoder

goes_from : (new : DecoderState) (before : ℕ) (rest : List ℕ) (stop : Stop) → new.before ≡ told_place before → HoldsRest new.held rest stop →
    GoesFrom new before rest stop
goes_from new before rest stops.Short e h = (e, h)
goes_from new before rest stops.Malformed e h = tt
goes_from new before rest stops.TooLong e h = tt

-- a decoder without a fault reads on
pub goes_on : {A T : Type 0} (Spells : A → List ℕ → Type 0) (most : ℕ) (takes : T → T → A → Bool → Type 0) (old new : DecoderState) (piece : List ℕ)
    (before after : T) (used : ℕ) (stop : Stop)
    → old.progress ≡ progress.More → ReadsTo Spells most takes (old.held ++ piece) new.held before after (reads.Up used stop)
    → new.before ≡ told_place (old.before + used) → new.progress ≡ told_progress new.before stop → FeedsTo Spells most takes old new piece before after
    (fed.All new.progress)
goes_on {A} Spells most takes old new piece before after used stop more m e p =
    let h = m.1 in
    let place : new.before ≡ told_place (old.before + length h.text) = omega (arith, e, h.long) in (
      m.0,
      subst (λ (so_far : Progress). FeedsFrom Spells most so_far old new piece m.0 new.progress) (sym more)
          (record {
            are = record {
              text = h.text;
              rest = h.rest;
              stop = stop;
              is = h.is;
              frames = h.frames;
              stops = h.stops;
              tells = p ∙ ap (λ (before : ℕ). told_progress before stop) place;
            };
            holds = goes_from new (old.before + length h.text) h.rest stop place h.holds;
            stays = refl;
          }),
      m.2,
    )
