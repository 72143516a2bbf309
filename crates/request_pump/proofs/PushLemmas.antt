-- Requests that are pushed, one after another.
use Rattle.std.proofs.Common.{◌≡◌, ℕ, suc, ◌+◌, ◌-◌, ◌<◌, ◌≤◌, List, [], ◌∷◌, ◌++◌, length, take, drop, get_or, arith, sym, ◌∙◌, ap}
use Rattle.std.proofs.Math.Seq.{drop-cons}
use Rattle.std.proofs.lemmas.List.{append_assoc, take-append-drop}
use Rattle.call_types.specs.declared.request.Request.{Request}
use Rattle.request_pump.specs.Bells.{BellState, more_by}
use Rattle.request_pump.specs.Proved.Pushing.{HandsBack, HandsOneBack, AsksAsGivenBack}
use Rattle.request_pump.specs.Pushes.{PushState}

-- a producer that knows of no free slot has sent as many items as the ring has room for
pub full_ring : (capacity limit past : ℕ) → limit - past ≡ 0 → capacity ≤ limit → capacity ≤ past
full_ring capacity limit past none least = omega (arith, none, least)

-- items in their order begin with those so far, the next one, and the rest
pub next_of : {A : Type 0} (all xs : List A) (x : A) → xs ≡ take (length xs) all → length xs < length all → x ≡ get_or all (length xs) x →
    all ≡ xs ++ x ∷ drop (suc (length xs)) all
next_of all xs x so_far some next =
    sym (take-append-drop (length xs) all) ∙ ap (λ l. l ++ drop (length xs) all) (sym so_far)
    ∙ ap (λ l. xs ++ l) (drop-cons all (length xs) x some ∙ ap (λ y. y ∷ drop (suc (length xs)) all) (sym next))

pub one_pushed : (old mid new so_far : List Request) (next : Request) → mid ≡ old ++ so_far → new ≡ mid ++ next ∷ [] → new ≡ old ++ (so_far ++ next ∷ [])
one_pushed old mid new so_far next e more = more ∙ ap (λ l. l ++ next ∷ []) e ∙ append_assoc old so_far (next ∷ [])

pub handed_back : (capacity : ℕ) (old mid new all so_far later : List Request) (next back : Request) → mid ≡ old ++ so_far → all ≡ so_far ++ next ∷ later →
    HandsOneBack capacity mid new next back → HandsBack capacity old new all back
handed_back capacity old mid new all so_far later next back e split h = record {
  pushed = so_far;
  later = later;
  are = split ∙ ap (λ (r : Request). so_far ++ r ∷ later) (sym h.same);
  is = h.stays ∙ e;
  full = h.full;
}

-- ---- how often room was asked for

-- more requests are pushed
pub asks_more : (old mid new : PushState) (before now after : BellState) → AsksAsGivenBack old mid before now → AsksAsGivenBack mid new now after →
    AsksAsGivenBack old new before after
asks_more old mid new before now after h k = record {
  rooms = λ (base : ℕ) (e : before.rooms ≡ more_by base old.requests). k.rooms base (h.rooms base e);
  pieces = k.pieces ∙ h.pieces;
}
