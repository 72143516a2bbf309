-- Where the answers of calls stand, and what the ends of a race tell.
use Rattle.std.proofs.Common.{◌≡◌, ◌∙◌, ◌<◌, ◌+◌, ◌++◌, ◌==◌, ℕ, List, [], ◌∷◌, Bool, true, false, Option, None, Some, zero, suc, length, take, drop, get_or, option_to_list, if◌then◌else◌, refl, ap, sym, subst, inl, inr, append_assoc, Less, arith}
use Rattle.std.specs.Prelude.{nat_eq}
use Rattle.std.specs.List.{All, AllByRecursion, Contains, dedup, slice_get}
use Rattle.std.specs.List.Sorted.{IsPermutation, IsSorted, IsStrictlySortedBy}
use Rattle.std.specs.Option.{option_map}
use Rattle.std.specs.Ordering.{nat_cmp}
use Rattle.std.specs.Cmp.{on_equiv, on_total}
use Rattle.std.specs.Cmp.Lexicographic.{pointwise, slice_cmp, nat_list_eq_equiv, nat_list_cmp_total, texts_ties}
use Rattle.std.proofs.Math.Seq.{drop-cons}
use Rattle.std.proofs.lemmas.List.{take_more}
use Rattle.std.proofs.lemmas.List.Elements.{All-map, All-weaker, All-contains_itself, Contains-append_left, Contains-push, Contains-push_cases}
use Rattle.std.proofs.lemmas.List.Kept.{Any-dedup, IsStrictlySortedBy-dedup}
use Rattle.std.proofs.lemmas.List.Sorted.{Contains-permutation}
use Rattle.std.proofs.lemmas.Slice.Eq.{bytes_eq-Decides}
use Rattle.posix_model.specs.Types.{Outcome, Bounds}
use Rattle.posix_model.specs.declared.world.World.{World}
use Rattle.script_text.specs.Answers.{answers_text}
use Rattle.race_outcomes.specs.Setups.{lanes_of}
use Rattle.script_text.specs.declared.races.RaceCall.{RaceCall}
use Rattle.race_outcomes.specs.declared.lanes.Lane.{Lane}
use Rattle.race_outcomes.specs.declared.position.Position.{Position}
use Rattle.race_outcomes.specs.declared.positions.Met.{Met}
use Rattle.race_outcomes.specs.declared.positions.Explored.{Explored}
use Rattle.race_outcomes.specs.declared.tellings.Seat.{Seat}
use Rattle.race_outcomes.specs.declared.tellings.Told.{Told}
use Rattle.race_outcomes.specs.Lanes.{IsFirstOf, IsPlaceOf}
use Rattle.race_outcomes.specs.Moves.{move}
use Rattle.race_outcomes.specs.Orders.{IsEnd}
use Rattle.race_outcomes.specs.Outcomes.{start_of}
use Rattle.race_outcomes.specs.Search.{Has, EndsAt, IsExplored}
use Rattle.race_outcomes.specs.Tellings.{Agrees, IsTold, AreTold, IsToldAt, answer_of, answers_from, answers, made_by, texts}
use Rattle.race_outcomes.specs.Proved.Tellings.{lane_place, seat_of, seats_from, in_row, in_lane, answers_at, SaysAt, SaysOrNot, SaidBelow, SaidAll}
use Rattle.race_outcomes.proofs.PlaceLemmas.{some_there, stands_somewhere, stands_there, same_some, below_or_last}

-- ---- seats

-- the lane that is found first is the one whose place is told
pub place_is : (process : ℕ) (lanes : List Lane) (place : Option ℕ) → IsPlaceOf process lanes place → place ≡ lane_place process lanes
place_is process [] None is = refl
place_is process [] (Some n) is = absurd (grind (arith, is.stands))
place_is process (lane ∷ lanes) None none =
    ap (λ place. option_map (λ n. n + 1) place) (place_is process lanes None (λ k other at. none (suc k) other at))
    ∙ sym (ap (λ b. if b then Some 0 else option_map (λ n. n + 1) (lane_place process lanes)) (none 0 lane refl))
place_is process (lane ∷ lanes) (Some zero) is =
    let same : is.lane ≡ lane = same_some (Some lane) is.lane lane is.stands refl in
    sym (ap (λ b. if b then Some 0 else option_map (λ n. n + 1) (lane_place process lanes)) (subst (λ l. (l.actor == process) ≡ true) same is.is))
place_is process (lane ∷ lanes) (Some (suc n)) is =
    let behind : IsFirstOf process lanes n = record {
      lane = is.lane;
      stands = is.stands;
      is = is.is;
      first = λ k other less at. is.first (suc k) other
          (omega (arith, less)) at;
    } in
    let one : Some (suc n) ≡ Some (n + 1) = ap (λ k. Some k) (omega arith) in
    one
    ∙ ap (λ place. option_map (λ k. k + 1) place) (place_is process lanes (Some n) behind)
    ∙ sym (ap (λ b. if b then Some 0 else option_map (λ k. k + 1) (lane_place process lanes)) (is.first 0 lane (omega arith) refl))

in_nothing : (lane : Option ℕ) (k : ℕ) → in_lane [] lane k ≡ None
in_nothing None k = refl
in_nothing (Some n) k = refl

in_later : (row : List Outcome) (rows : List (List Outcome)) (lane : Option ℕ) (k : ℕ) → in_lane (row ∷ rows) (option_map (λ n. n + 1) lane) k
    ≡ in_lane rows lane k
in_later row rows None k = refl
in_later row rows (Some n) k =
    let one : n + 1 ≡ suc n = omega arith in
    ap (λ m. in_row (slice_get (row ∷ rows) m) k) one

answer_later : (row : List Outcome) (rows : List (List Outcome)) (here : Bool) (other : Option Outcome) (lane : Option ℕ) (k : ℕ) →
    other ≡ in_lane rows lane k → (if here then slice_get row k else other) ≡ in_lane (row ∷ rows) (if here then Some 0 else option_map (λ n. n + 1) lane) k
answer_later row rows true other lane k same = refl
answer_later row rows false other lane k same = same ∙ sym (in_later row rows lane k)

-- the answer of a process stands at the place of its first lane
pub answer_placed : (lanes : List Lane) (told : List (List Outcome)) (process k : ℕ) → answer_of lanes told process k ≡ in_lane told
    (lane_place process lanes) k
answer_placed [] told process k = refl
answer_placed (lane ∷ lanes) [] process k = sym (in_nothing (lane_place process (lane ∷ lanes)) k)
answer_placed (lane ∷ lanes) (row ∷ rows) process k =
    answer_later row rows (lane.actor == process) (answer_of lanes rows process k) (lane_place process lanes) k (answer_placed lanes rows process k)

-- the answers of calls stand at their seats
pub answers_placed : (lanes : List Lane) (told : List (List Outcome)) (before calls : List RaceCall) → answers_from lanes told before calls ≡ answers_at told
    (seats_from lanes before calls)
answers_placed lanes told before [] = refl
answers_placed lanes told before (c ∷ cs) =
    ap (λ a. a ∷ answers_from lanes told (before ++ c ∷ []) cs) (answer_placed lanes told c.process (made_by c.process before))
    ∙ ap (λ xs. in_lane told (lane_place c.process lanes) (made_by c.process before) ∷ xs) (answers_placed lanes told (before ++ c ∷ []) cs)

pub answers_same : (calls : List RaceCall) (told : List (List Outcome)) (seats : List Seat) → seats ≡ seats_from (lanes_of calls) [] calls →
    answers_at told seats ≡ answers calls told
answers_same calls told seats is = ap (λ s. answers_at told s) is ∙ sym (answers_placed (lanes_of calls) told [] calls)

-- the seat of one call more
pub one_more_seat : (lanes : List Lane) (calls : List RaceCall) (seats new all : List Seat) (i : ℕ) (c : RaceCall) (s : Seat) → i < length calls →
    c ≡ get_or calls i c → s ≡ seat_of lanes (take i calls) c → new ≡ seats ++ s ∷ [] → seats ++ seats_from lanes (take i calls) (drop i calls) ≡ all →
    new ++ seats_from lanes (take (i + 1) calls) (drop (i + 1) calls) ≡ all
one_more_seat lanes calls seats new all i c s within is seat pushed so_far =
    let front : take (i + 1) calls ≡ take i calls ++ c ∷ [] = take_more calls i c within ∙ ap (λ x. take i calls ++ x ∷ []) (sym is) in
    let one : suc i ≡ i + 1 = omega arith in
    let left : drop i calls ≡ c ∷ drop (i + 1) calls = drop-cons calls i c within ∙ ap (λ x. x ∷ drop (suc i) calls) (sym is) ∙
    ap (λ n. c ∷ drop n calls) one in
    let rest : seats_from lanes (take i calls) (drop i calls) ≡ s ∷ seats_from lanes (take (i + 1) calls) (drop (i + 1) calls) =
    ap (λ l. seats_from lanes (take i calls) l) left
    ∙ ap (λ x. x ∷ seats_from lanes (take i calls ++ c ∷ []) (drop (i + 1) calls)) (sym seat)
    ∙ ap (λ f. s ∷ seats_from lanes f (drop (i + 1) calls)) (sym front) in
    let joined : (seats ++ s ∷ []) ++ seats_from lanes (take (i + 1) calls) (drop (i + 1) calls) ≡ seats ++
    (s ∷ seats_from lanes (take (i + 1) calls) (drop (i + 1) calls)) = rw append_assoc in
    ap (λ l. l ++ seats_from lanes (take (i + 1) calls) (drop (i + 1) calls)) pushed ∙ joined ∙ ap (λ l. seats ++ l) (sym rest) ∙ so_far

-- ---- what is told

-- what one more tells stands last
texts_push : (xs : List Told) (t : Told) → texts (xs ++ t ∷ []) ≡ texts xs ++ t.text.items ∷ []
texts_push [] t = refl
texts_push (x ∷ xs) t = ap (λ ts. x.text.items ∷ ts) (texts_push xs t)

nothing_more : (xs : List Told) → xs ++ [] ≡ xs
nothing_more [] = refl
nothing_more (x ∷ xs) = ap (λ ys. x ∷ ys) (nothing_more xs)

-- a position that was met says what its answers are
pub says_there : (calls : List RaceCall) (seats : List Seat) (met : List (Met Position)) (t : Told) (told : List (List Outcome)) → t.place < length met →
    ((m : Met Position) → slice_get met t.place ≡ Some m → told ≡ m.position.told) → Agrees calls (answers_at told seats) →
    t.text.items ≡ answers_text (answers_at told seats) → SaysAt calls seats met t
says_there calls seats met t told within is agrees text =
    let here : (m : _) × (slice_get met t.place ≡ Some m) = some_there met t.place within in
    let same : told ≡ here.0.position.told = is here.0 here.1 in
    record {
      entry = here.0;
      stands = here.1;
      agrees = subst (λ all. Agrees calls (answers_at all seats)) same agrees;
      text = text ∙ ap (λ all. answers_text (answers_at all seats)) same;
    }

pub nothing_said : (calls : List RaceCall) (seats : List Seat) (met : List (Met Position)) (ends : List ℕ) → SaidBelow calls seats met ends 0 []
nothing_said calls seats met ends = record {
  sound = λ t has. absurd (omega (arith, has.1));
  complete = λ i place m less at_i at_place agrees. absurd (omega (arith, less));
}

pub one_more_said : (calls : List RaceCall) (seats : List Seat) (met : List (Met Position)) (ends : List ℕ) (done place : ℕ) (old new : List Told)
    (o : Option Told) → slice_get ends done ≡ Some place → SaidBelow calls seats met ends done old → SaysOrNot calls seats met place o →
    new ≡ old ++ option_to_list o → SaidBelow calls seats met ends (done + 1) new
one_more_said calls seats met ends done place old new None at so_far nothing is =
    subst (λ told. SaidBelow calls seats met ends (done + 1) told) (sym (nothing_more old) ∙ sym is) (record {
      sound = so_far.sound;
      complete = λ i p m less at_i at_p agrees. elim (below_or_last i done less) [
        | inl lower ↦ so_far.complete i p m lower at_i at_p agrees
        | inr last ↦
            let same : p ≡ place = same_some (slice_get ends done) p place (subst (λ k. slice_get ends k ≡ Some p) last at_i) at in
            absurd (nothing m (subst (λ k. slice_get met k ≡ Some m) same at_p) agrees)
      ];
    })
one_more_said calls seats met ends done place old new (Some t) at so_far says is =
    subst (λ told. SaidBelow calls seats met ends (done + 1) told) (sym is) (record {
      sound = λ y has. elim (Contains-push_cases old t y has) [
        | inl before ↦ so_far.sound y before
        | inr same ↦ subst (λ z. SaysAt calls seats met z × Contains ends z.place) same
            (says.0, subst (λ k. Contains ends k) (sym says.1) (stands_there ends done place at))
      ];
      complete = λ i p m less at_i at_p agrees. elim (below_or_last i done less) [
        | inl lower ↦ subst (λ ts. Contains ts (answers_text (answers_at m.position.told seats))) (sym (texts_push old t))
            (Contains-append_left (texts old) (t.text.items ∷ []) (answers_text (answers_at m.position.told seats))
            (so_far.complete i p m lower at_i at_p agrees))
        | inr last ↦
            let place_same : p ≡ t.place = same_some (slice_get ends done) p place (subst (λ k. slice_get ends k ≡ Some p) last at_i) at ∙ sym says.1 in
            let entry_same : says.0.entry ≡ m = same_some (slice_get met t.place) says.0.entry m says.0.stands
            (subst (λ k. slice_get met k ≡ Some m) place_same at_p) in
            let text_same : t.text.items ≡ answers_text (answers_at m.position.told seats) = says.0.text ∙
            ap (λ e. answers_text (answers_at e.position.told seats)) entry_same in
            subst (λ ts. Contains ts (answers_text (answers_at m.position.told seats))) (sym (texts_push old t))
            (subst (λ text. Contains (texts old ++ t.text.items ∷ []) text) text_same (Contains-push (texts old) t.text.items))
      ];
    })

pub all_said : (calls : List RaceCall) (seats : List Seat) (met : List (Met Position)) (ends : List ℕ) (done : ℕ) (told : List Told) → done ≡ length ends →
    SaidBelow calls seats met ends done told → SaidAll calls seats met ends told
all_said calls seats met ends done told all said = record {
  sound = said.sound;
  complete = λ place m has at agrees.
      let here : (k : ℕ) × (k < length ends) × (slice_get ends k ≡ Some place) = stands_somewhere ends place has in
      said.complete here.0 place m (omega (arith, here.1, all)) here.2 at agrees;
}

-- ---- sorted, each once

-- a text is told by something
told_by : (told : List Told) (text : List ℕ) → Contains (texts told) text → (t : Told) × Contains told t × (t.text.items ≡ text)
told_by [] text has = absurd (omega (arith, has.1))
told_by (t ∷ told) text (zero, less, is) = (t, (0, omega arith, refl), is)
told_by (t ∷ told) text (suc k, less, is) =
    let found : (u : Told) × Contains told u × (u.text.items ≡ text) = told_by told text (k, omega (arith, less), is) in
    (found.0, (suc found.1.0, omega (arith, found.1.1), found.1.2), found.2)

-- what tells a text has it among the texts
text_there : (told : List Told) (t : Told) → Contains told t → Contains (texts told) t.text.items
text_there [] t has = absurd (omega (arith, has.1))
text_there (x ∷ told) t (zero, less, is) = (0, omega arith, ap (λ y. y.text.items) is)
text_there (x ∷ told) t (suc k, less, is) =
    let found : Contains (texts told) t.text.items = text_there told t (k, omega (arith, less), is) in
    (suc found.0, omega (arith, found.1), found.2)

abbrev same_text : Told → Told → Bool
same_text x y = pointwise nat_eq x.text.items y.text.items

pub texts_kept : (old sorted new : List Told) → IsPermutation old sorted → new ≡ dedup same_text sorted → (text : List ℕ) → Contains (texts old) text →
    Contains (texts new) text
texts_kept old sorted new moved is text has =
    let by = told_by old text has in
    let kept = Any-dedup (on_equiv (λ t. t.text.items) nat_list_eq_equiv) sorted by.0 (Contains-permutation old sorted by.0 moved by.1) in
    let same : by.0.text.items ≡ kept.1.text.items = (bytes_eq-Decides by.0.text.items kept.1.text.items).0 kept.4 in
    let there : Contains (dedup same_text sorted) kept.1 = (kept.0, kept.2, kept.3) in
    subst (λ told. Contains (texts told) text) (sym is) (subst (λ x. Contains (texts (dedup same_text sorted)) x) (sym same ∙ by.2)
    (text_there (dedup same_text sorted) kept.1 there))

below_all : (x : List ℕ) (told : List Told) → AllByRecursion (λ t. slice_cmp nat_cmp x t.text.items ≡ Less) told →
    AllByRecursion (λ text. slice_cmp nat_cmp x text ≡ Less) (texts told)
below_all x [] below = below
below_all x (t ∷ told) below = (below.0, below_all x told below.1)

rising_texts : (told : List Told) → IsStrictlySortedBy (λ x y. slice_cmp nat_cmp x.text.items y.text.items) told →
    IsStrictlySortedBy (slice_cmp nat_cmp) (texts told)
unfolding IsStrictlySortedBy
rising_texts [] rising = rising
rising_texts (t ∷ told) rising = (below_all t.text.items told rising.0, rising_texts told rising.1)

pub texts_rise : (sorted new : List Told) → IsSorted (λ x y. slice_cmp nat_cmp x.text.items y.text.items) sorted → new ≡ dedup same_text sorted →
    IsStrictlySortedBy (slice_cmp nat_cmp) (texts new)
texts_rise sorted new in_order is =
    subst (λ told. IsStrictlySortedBy (slice_cmp nat_cmp) (texts told)) (sym is)
    (rising_texts (dedup same_text sorted) (IsStrictlySortedBy-dedup (on_total (λ t. t.text.items) nat_list_cmp_total)
    (λ x y. texts_ties x.text.items y.text.items) sorted in_order))

-- ---- all that the calls may answer

says_told : (moves : Position → ℕ → Option Position) (met : List (Met Position)) (calls : List RaceCall) (seats : List Seat) (t : Told) →
    seats ≡ seats_from (lanes_of calls) [] calls → SaysAt calls seats met t → EndsAt moves met t.place → IsToldAt moves met calls t
says_told moves met calls seats t seated says ends =
    let same : ends.entry ≡ says.entry = same_some (slice_get met t.place) ends.entry says.entry ends.stands says.stands in
    record {
      entry = says.entry;
      stands = says.stands;
      end = subst (λ e. IsEnd moves e.position) same ends.end;
      agrees = subst (λ xs. Agrees calls xs) (answers_same calls says.entry.position.told seats seated) says.agrees;
      text = says.text ∙ ap (λ xs. answers_text xs) (answers_same calls says.entry.position.told seats seated);
    }

pub all_at_ends : (moves : Position → ℕ → Option Position) (explored : Explored Position) (calls : List RaceCall) (seats : List Seat) (all told : List Told) →
    ((k : ℕ) → Contains explored.ends k → EndsAt moves explored.met k) → seats ≡ seats_from (lanes_of calls) [] calls →
    SaidAll calls seats explored.met explored.ends all → ((t : Told) → Contains told t → Contains all t) → All (IsToldAt moves explored.met calls) told
all_at_ends moves explored calls seats all told ends seated said sound =
    All-weaker (Contains told) (IsToldAt moves explored.met calls)
    (λ t has. says_told moves explored.met calls seats t seated (said.sound t (sound t has)).0 (ends t.place (said.sound t (sound t has)).1))
    told (All-contains_itself told)

told_is : (bounds : Bounds) (calls : List RaceCall) (world : World) (explored : Explored Position) (t : Told) → IsExplored (move bounds (lanes_of calls))
    (start_of (lanes_of calls) world) explored → IsToldAt (move bounds (lanes_of calls)) explored.met calls t → IsTold bounds calls world t.text.items
told_is bounds calls world explored t all is = (
  is.entry.position.told,
  (is.entry.position, all.sound t.place is.entry is.stands, is.end, refl),
  is.agrees,
  is.text,
)

told_complete : (bounds : Bounds) (calls : List RaceCall) (world : World) (explored : Explored Position) (seats : List Seat) (told : List Told) →
    seats ≡ seats_from (lanes_of calls) [] calls → IsExplored (move bounds (lanes_of calls)) (start_of (lanes_of calls) world) explored →
    SaidAll calls seats explored.met explored.ends told → (text : List ℕ) → IsTold bounds calls world text → Contains (texts told) text
told_complete bounds calls world explored seats told seated all said text is =
    let has : Has explored.met is.1.0 = all.complete is.1.0 is.1.1 in
    let end : EndsAt (move bounds (lanes_of calls)) explored.met has.place =
    record { entry = has.entry; stands = has.stands; end = subst (λ p. IsEnd (move bounds (lanes_of calls)) p) (sym has.is) is.1.2 } in
    let same : answers calls is.0 ≡ answers_at has.entry.position.told seats = ap (λ told. answers calls told) (sym is.1.3 ∙ ap (λ p. p.told) (sym has.is)) ∙
    sym (answers_same calls has.entry.position.told seats seated) in
    let there : Contains (texts told) (answers_text (answers_at has.entry.position.told seats)) =
    said.complete has.place has.entry (all.all_ends has.place end) has.stands (subst (λ xs. Agrees calls xs) same is.2) in
    subst (λ x. Contains (texts told) x) (ap (λ xs. answers_text xs) (sym same) ∙ sym is.3) there

pub are_told : (bounds : Bounds) (lanes : List Lane) (calls : List RaceCall) (world : World) (explored : Explored Position) (seats : List Seat)
    (all told : List Told) → lanes ≡ lanes_of calls → seats ≡ seats_from lanes [] calls → SaidAll calls seats explored.met explored.ends all →
    ((t : Told) → Contains told t → Contains all t) → ((text : List ℕ) → Contains (texts all) text → Contains (texts told) text) →
    IsStrictlySortedBy (slice_cmp nat_cmp) (texts told)
    → IsExplored (move bounds lanes) (start_of lanes world) explored → AreTold bounds calls world (texts told)
are_told bounds lanes calls world explored seats all told of_calls seats_are said sound kept rising is =
    let explored_so : IsExplored (move bounds (lanes_of calls)) (start_of (lanes_of calls) world) explored =
    subst (λ ls. IsExplored (move bounds ls) (start_of ls world) explored) of_calls is in
    let seated : seats ≡ seats_from (lanes_of calls) [] calls = subst (λ ls. seats ≡ seats_from ls [] calls) of_calls seats_are in
    let at_ends : All (IsToldAt (move bounds (lanes_of calls)) explored.met calls) told =
    all_at_ends (move bounds (lanes_of calls)) explored calls seats all told explored_so.ends seated said sound in
    record {
      sound = All-map (IsTold bounds calls world) (λ t. t.text.items) told (All-weaker (IsToldAt (move bounds (lanes_of calls)) explored.met calls)
          (λ t. IsTold bounds calls world t.text.items) (λ t at. told_is bounds calls world explored t explored_so at) told at_ends);
      complete = λ text told_so. kept text (told_complete bounds calls world explored seats all seated explored_so said text told_so);
      rising = rising;
    }
