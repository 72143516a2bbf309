-- A piece more of the bytes.
use Rattle.std.proofs.Common.{◌≡◌, ℕ, List, [], ◌∷◌, ◌++◌, Some, None, refl, sym, ◌∙◌, ap, subst}
use Rattle.std.proofs.lemmas.List.{append-nil, append_assoc}
use Rattle.std.proofs.lemmas.List.Folds.{concat-append}
use Rattle.std.specs.List.{concat}
use Rattle.call_types.specs.declared.request.Request.{Request}
use Rattle.frame_codec.specs.Decoding.{DecoderState, fresh, FeedsFrom, Feeds}
use Rattle.frame_codec.specs.Proved.Filling.{FeedsAll}
use Rattle.frame_codec.specs.Proved.Laws.{CutsDoNotMatter}
use Rattle.frame_codec.specs.Requests.{SpellsRequest}
use Rattle.frame_codec.specs.declared.decoder.Progress.{Progress}
use Rattle.frame_codec.specs.declared.decoder.Progress.TheVariants as progress
use Rattle.request_pump.specs.Input.{Begins, AreRequests, IsFault}
use Rattle.request_pump.specs.Proved.Pushing.{HandsBack}
use Rattle.request_pump.specs.Pump.{HasPushedAll}
use Rattle.request_pump.specs.Proved.Pumping.{HasFed, IsPumping, PumpsPiece}
use Rattle.request_pump.specs.declared.pumped.PumpEnd.TheVariants as end
use Rattle.request_pump.proofs.InputLemmas.{begins_read}

-- ---- what a decoder gave

told_from : {A : Type 0} (Spells : A → List ℕ → Type 0) (most : ℕ) (p : Progress) (old new : DecoderState) (piece : List ℕ) (values : List A)
    (told : Progress) → FeedsFrom Spells most p old new piece values told → told ≡ new.progress
told_from Spells most progress.More old new piece values told h = sym h.stays
told_from Spells most (progress.Malformed at) old new piece values told h = h.tells ∙ ap (λ (d : DecoderState). d.progress) (sym h.same)
told_from Spells most (progress.TooLong at) old new piece values told h = h.tells ∙ ap (λ (d : DecoderState). d.progress) (sym h.same)

feeds_more : {A : Type 0} (Spells : A → List ℕ → Type 0) (most : ℕ) (pieces : List (List ℕ)) (old mid new : DecoderState) (values more : List A)
    (so_far told : Progress) (piece : List ℕ) → FeedsAll Spells most old mid pieces values so_far
    → Feeds Spells most mid new piece more told → FeedsAll Spells most old new (pieces ++ piece ∷ []) (values ++ more) told
feeds_more {A} Spells most [] old mid new values more so_far told piece h k = (
  new,
  more,
  [],
  told,
  subst (λ (d : DecoderState). Feeds Spells most d new piece more told) h.0 k,
  (refl, refl, told_from Spells most mid.progress mid new piece more told k),
  ap (λ (l : List A). l ++ more) h.1 ∙ sym (append-nil more),
)
feeds_more {A} Spells most (one ∷ pieces) old mid new values more so_far told piece h k = (
  h.0,
  h.1,
  h.2 ++ more,
  h.3,
  h.4,
  feeds_more Spells most pieces h.0 mid new h.2 more so_far told piece h.5 k,
  ap (λ (l : List A). l ++ more) h.6 ∙ append_assoc h.1 h.2 more,
)

-- a piece more
fed_more : (input piece : List ℕ) (old new : DecoderState) (requests more : List Request) (told : Progress) → HasFed input old requests progress.More →
    Feeds SpellsRequest 65792 old new piece more told → HasFed (input ++ piece) new (requests ++ more) told
fed_more input piece old new requests more told h k = record {
  pieces = h.pieces ++ piece ∷ [];
  joined = concat-append h.pieces (piece ∷ []) ∙ ap (λ (l : List ℕ). concat h.pieces ++ l) (append-nil piece) ∙ ap (λ (l : List ℕ). l ++ piece) h.joined;
  fed = feeds_more SpellsRequest 65792 h.pieces fresh old new requests more progress.More told piece h.fed k;
}

are_requests : CutsDoNotMatter SpellsRequest 65792 → (input : List ℕ) (new : DecoderState) (requests : List Request) (told : Progress) →
    HasFed input new requests told → AreRequests input requests told
are_requests law input new requests told h = subst (λ (l : List ℕ). AreRequests l requests told) h.joined (law h.pieces new requests told h.fed)

begins_longer : (input piece : List ℕ) (requests : List Request) → Begins input requests → Begins (input ++ piece) requests
begins_longer input piece requests h = record {
  text = h.text;
  rest = h.rest ++ piece;
  is = ap (λ (l : List ℕ). l ++ piece) h.is ∙
      append_assoc h.text h.rest piece;
  frames = h.frames;
}

is_fault : (told : Progress) → (told ≡ progress.More → ⊥) → IsFault told
is_fault progress.More h = h refl
is_fault (progress.Malformed at) h = tt
is_fault (progress.TooLong at) h = tt

-- ---- what is pushed of it

pushed_more : (old mid new before more : List Request) → mid ≡ old ++ before → new ≡ mid ++ more → new ≡ old ++ (before ++ more)
pushed_more old mid new before more e is = is ∙ ap (λ l. l ++ more) e ∙ append_assoc old before more

pub pushed_all : CutsDoNotMatter SpellsRequest 65792 → (input : List ℕ) (decoder : DecoderState) (old new : List Request) → IsPumping input decoder old new →
    HasPushedAll input old new
pushed_all law input decoder old new h = record { requests = h.requests; read = are_requests law input decoder h.requests progress.More h.fed; is = h.is }

pub no_memory : CutsDoNotMatter SpellsRequest 65792 → (capacity : ℕ) (piece : List ℕ) (decoder after : DecoderState) (mid : List Request) →
    PumpsPiece capacity piece decoder after mid mid (Some end.NoMemory)
no_memory law capacity piece decoder after mid input old h = record {
  requests = h.requests;
  begins = begins_longer input piece h.requests (begins_read input h.requests progress.More (are_requests law input decoder h.requests progress.More h.fed));
  is = h.is;
}

pub ahead : CutsDoNotMatter SpellsRequest 65792 → (capacity : ℕ) (piece : List ℕ) (decoder after : DecoderState) (mid new requests : List Request)
    (told : Progress) (back : Request) → Feeds SpellsRequest 65792 decoder after piece requests told
    → HandsBack capacity mid new requests back → PumpsPiece capacity piece decoder after mid new (Some end.Ahead)
ahead law capacity piece decoder after mid new requests told back feeds hands input old h = record {
  requests = h.requests ++ hands.pushed;
  back = back;
  later = hands.later;
  begins =
      subst (Begins (input ++ piece)) (ap (λ (l : List Request). h.requests ++ l) hands.are ∙ sym (append_assoc h.requests hands.pushed (back ∷ hands.later)))
      (begins_read (input ++ piece) (h.requests ++ requests) told (are_requests law (input ++ piece) after (h.requests ++ requests) told
      (fed_more input piece decoder after h.requests requests told h.fed feeds)));
  is = pushed_more old mid new h.requests hands.pushed h.is hands.is;
  full = hands.full;
}

pub piece_pushed : (capacity : ℕ) (piece : List ℕ) (decoder after : DecoderState) (mid new requests : List Request) (told : Progress) →
    Feeds SpellsRequest 65792 decoder after piece requests told → new ≡ mid ++ requests → told ≡ progress.More
    → PumpsPiece capacity piece decoder after mid new None
piece_pushed capacity piece decoder after mid new requests told feeds is more input old h = record {
  requests = h.requests ++ requests;
  fed = subst (HasFed (input ++ piece) after (h.requests ++ requests)) more (fed_more input piece decoder after h.requests requests told h.fed feeds);
  is = pushed_more old mid new h.requests requests h.is is;
}

pub malformed : CutsDoNotMatter SpellsRequest 65792 → (capacity : ℕ) (piece : List ℕ) (decoder after : DecoderState) (mid new requests : List Request)
    (told : Progress) → Feeds SpellsRequest 65792 decoder after piece requests told
    → new ≡ mid ++ requests → (told ≡ progress.More → ⊥) → PumpsPiece capacity piece decoder after mid new (Some end.Malformed)
malformed law capacity piece decoder after mid new requests told feeds is fault input old h = record {
  requests = h.requests ++ requests;
  told = told;
  fault = is_fault told fault;
  read = are_requests law (input ++ piece) after (h.requests ++ requests) told (fed_more input piece decoder after h.requests requests told h.fed feeds);
  is = pushed_more old mid new h.requests requests h.is is;
}
