-- Which receipts of seats are good, one seat after another.
use Rattle.std.proofs.Common.{◌≡◌, ℕ, suc, ◌+◌, ◌<◌, ◌≤◌, ◌⊎◌, List, [], ◌∷◌, ◌++◌, map, Option, None, Some, length, refl, sym, ap, subst, ◌∙◌, arith, IfSome, inl, inr}
use Rattle.std.specs.List.{slice_get, slice_index}
use Rattle.std.proofs.lemmas.List.{append-nil, get_or_past}
use Rattle.std.proofs.lemmas.Bool.{cases_lt}
use Rattle.std.proofs.lemmas.Option.{slice_get_past}
use Rattle.std.proofs.lemmas.Bool.Decides.{nat_tests}
use Rattle.run_core.specs.Receipts.{Held, Agrees, GoodAt, GoodFrom, IsBefore, names, named, wanted}
use Rattle.run_core.specs.Run.{held_in, AreAll, IsLeast}
use Rattle.call_types.specs.declared.act.Record.{Record}
use Rattle.record_book.specs.Seat.{Receipted, SeatState}

-- of no seats nothing is asked
pub none_left : (h : List Record) (p : ℕ) (left : List Held) → length left ≡ 0 → GoodAt h p left
none_left h p [] none = tt
none_left h p (s ∷ ss) none = absurd (omega (arith, none))

-- one whose receipts are good, before good ones
pub good_before : (h : List Record) (p : ℕ) (s : Held) (rest left : List Held) (pid : ℕ) (receipts : List Receipted) → left ≡ s ∷ rest → pid ≡ s.pid →
    receipts ≡ s.receipts → GoodFrom h pid p None receipts → GoodAt h p rest → GoodAt h p left
good_before h p s rest left pid receipts is who given good others = rw is (rw (sym who, sym given) good, others)

-- the first of good ones, and the others
pub first_good : (h : List Record) (p : ℕ) (s : Held) (rest left : List Held) (pid : ℕ) (receipts : List Receipted) → left ≡ s ∷ rest → pid ≡ s.pid →
    receipts ≡ s.receipts → GoodAt h p left → GoodFrom h pid p None receipts × GoodAt h p rest
first_good h p s rest left pid receipts is who given all =
    let parts = subst (λ seats. GoodAt h p seats) is all in
    (rw (who, given) parts.0, parts.1)

-- good ones before good ones
pub good_joined : (h : List Record) (p : ℕ) (xs ys : List Held) → GoodAt h p xs → GoodAt h p ys → GoodAt h p (xs ++ ys)
good_joined h p [] ys front back = back
good_joined h p (x ∷ xs) ys front back = (front.0, good_joined h p xs ys front.1 back)

-- where all are good, the first are, and those after them
pub good_parted : (h : List Record) (p : ℕ) (xs ys : List Held) → GoodAt h p (xs ++ ys) → GoodAt h p xs × GoodAt h p ys
good_parted h p [] ys all = (tt, all)
good_parted h p (x ∷ xs) ys all = let others = good_parted h p xs ys all.1 in ((all.0, others.0), others.1)

-- how often two lists name a place
pub named_joined : (p : ℕ) (xs ys : List Held) → named p (xs ++ ys) ≡ named p xs + named p ys
named_joined p [] ys = omega arith
named_joined p (x ∷ xs) ys = let others = named_joined p xs ys in omega (arith, others)

-- the lowest of two places of which neither holds
pub neither_holds : (one other result : Option ℕ) (P Q R N : ℕ → Type 0) → ((q : ℕ) → R q → P q) → ((q : ℕ) → R q → Q q) →
    (result ≡ one) ⊎ ((result ≡ other) × IfSome result N) → IfSome one (λ q. P q → ⊥) → IfSome other (λ q. Q q → ⊥) → IfSome result (λ q. R q → ⊥)
neither_holds None other result P Q R N first second (inl is) not_one not_other = rw is tt
neither_holds (Some q) other result P Q R N first second (inl is) not_one not_other = rw is (λ all. not_one (first q all))
neither_holds one None result P Q R N first second (inr is) not_one not_other = rw is.0 tt
neither_holds one (Some q) result P Q R N first second (inr is) not_one not_other = rw is.0 (λ all. not_other (second q all))

-- a receipt of a place above does not name it
pub not_named : (p place : ℕ) (r : Receipted) (rest left : List Receipted) → left ≡ r ∷ rest → place ≡ r.place → p < place → names p left ≡ names p rest
not_named p place r rest left is given above = rw is (grind (arith, given, above))

-- a receipt names its own place once
pub named_once : (place : ℕ) (r : Receipted) (rest left : List Receipted) → left ≡ r ∷ rest → place ≡ r.place → names place left ≡ names place rest + 1
named_once place r rest left is given = rw is (grind (arith, given))

-- a place that was marked before is named more often than wanted
pub more_than_wanted : (len first place mark named rest total : ℕ) → len ≡ first → wanted len place ≤ mark → mark + named ≡ total → named ≡ rest + 1 →
    wanted first place < total
more_than_wanted len first place mark named rest total same few all once = rw (sym same) (omega (arith, few, all, once))

-- the lower of a place that is named too often, and of one that was so before
pub still_twice : (least first : Option ℕ) (lowest place : ℕ) (wants has : ℕ → ℕ)
    → ((lowest ≡ place) × IsBefore place least) ⊎ (least ≡ Some lowest)
    → (least ≡ first) ⊎ IfSome least (λ q. IsBefore q first × (wants q < has q))
    → ((p : ℕ) → IsBefore p least → IsBefore p first)
    → (IsBefore place least → wants place < has place)
    → (Some lowest ≡ first) ⊎ (IsBefore lowest first × (wants lowest < has lowest))
still_twice least first lowest place wants has (inl lower) before narrower more = inr (rw lower.0 (narrower place lower.1, more lower.1))
still_twice least first lowest place wants has (inr is) (inl same) narrower more = inl (sym is ∙ same)
still_twice least first lowest place wants has (inr is) (inr twice) narrower more =
    inr (subst (λ o. IfSome o (λ q. IsBefore q first × (wants q < has q))) is twice)

-- the receipts of a seat name a place, and those of the others
pub seat_names : (p : ℕ) (s : Held) (rest left : List Held) (receipts : List Receipted) → left ≡ s ∷ rest → receipts ≡ s.receipts →
    named p left ≡ names p receipts + named p rest
seat_names p s rest left receipts is given = rw is (rw given refl)

-- a place that is named more often than wanted by some is so by all
pub too_often : (least first result : Option ℕ) (len len_first : ℕ) (part has : ℕ → ℕ) → len ≡ len_first
    → (result ≡ least) ⊎ IfSome result (λ q. IsBefore q least × (wanted len q < part q))
    → ((q : ℕ) → IsBefore q least → part q ≤ has q)
    → ((q : ℕ) → IsBefore q least → IsBefore q first)
    → (least ≡ first) ⊎ IfSome least (λ q. IsBefore q first × (wanted len_first q < has q))
    → (result ≡ first) ⊎ IfSome result (λ q. IsBefore q first × (wanted len_first q < has q))
too_often least first result len len_first part has same (inl is) more narrower before = rw is before
too_often least first None len len_first part has same (inr twice) more narrower before = inr tt
too_often least first (Some q) len len_first part has same (inr twice) more narrower before =
    inr (narrower q twice.0, rw (sym same) (let few = twice.1 in let all = more q twice.0 in omega (arith, few, all)))

-- a place that one of two passes finds named too often
pub named_too_often : (first second : Option ℕ) (len_first len : ℕ) (m_first m n_first n all : ℕ → ℕ) → len ≡ len_first
    → ((q : ℕ) → m_first q ≡ 0)
    → ((q : ℕ) → all q ≡ n_first q + n q)
    → ((q : ℕ) → IsBefore q first → m q ≡ m_first q + n_first q)
    → (first ≡ None) ⊎ IfSome first (λ q. IsBefore q None × (wanted len_first q < m_first q + n_first q))
    → (second ≡ first) ⊎ IfSome second (λ q. IsBefore q first × (wanted len q < m q + n q))
    → IfSome second (λ q. all q ≡ wanted len_first q → ⊥)
named_too_often first second len_first len m_first m n_first n all same fresh sum marked (inl none) (inl is) = rw is (rw none tt)
named_too_often None second len_first len m_first m n_first n all same fresh sum marked (inr twice) (inl is) = rw is tt
named_too_often (Some q) second len_first len m_first m n_first n all same fresh sum marked (inr twice) (inl is) =
    rw is (λ fits. let few = twice.1 in let none = fresh q in let both = sum q in omega (arith, few, none, both, fits))
named_too_often first None len_first len m_first m n_first n all same fresh sum marked one (inr twice) = tt
named_too_often first (Some q) len_first len m_first m n_first n all same fresh sum marked one (inr twice) =
    rw (sym same) (λ fits. let few = twice.1 in let none = fresh q in let both = sum q in let there = marked q twice.0 in
    omega (arith, few, none, both, there, fits))

-- the lower of a place that is named too often, and of one that none names
pub named_wrongly : (one other result : Option ℕ) (P : ℕ → Type 0) → (result ≡ one) ⊎ ((result ≡ other) × IfSome result (λ q. IsBefore q one)) →
    IfSome one (λ q. P q → ⊥) → IfSome other (λ q. IsBefore q one → P q → ⊥) → IfSome result (λ q. P q → ⊥)
named_wrongly one other result P (inl is) not_one not_other = rw is not_one
named_wrongly one None result P (inr is) not_one not_other = rw is.0 tt
named_wrongly one (Some q) result P (inr is) not_one not_other =
    let before = subst (λ o. IfSome o (λ q. IsBefore q one)) is.0 is.1 in rw is.0 (not_other before)

-- a place of a record that is not marked is named by none
pub none_names : (unmarked twice : Option ℕ) (marks : List ℕ) (len : ℕ) (all : ℕ → ℕ) → length marks ≡ len
    → IfSome unmarked (λ q. (q < length marks) × (slice_index marks q ≡ 0))
    → ((q : ℕ) → IsBefore q twice → slice_index marks q ≡ all q)
    → IfSome unmarked (λ q. IsBefore q twice → all q ≡ wanted len q → ⊥)
none_names None twice marks len all same there marked = tt
none_names (Some q) twice marks len all same there marked =
    rw (sym same) (λ before fits. let below = there.0 in let none = there.1 in let named = marked q before in
    grind (arith, nat_tests, below, none, named, fits))

-- a place that is marked just once is named as often as it is wanted
pub named_as_wanted : (marks : List ℕ) (len p has : ℕ) → length marks ≡ len → slice_index marks p ≤ 1 → (p < length marks → 1 ≤ slice_index marks p) →
    slice_index marks p ≡ has → has ≡ wanted len p
named_as_wanted marks len p has is few there marked = elim (cases_lt p (length marks)) [
  | inl below ↦ let one = there below in rw (sym is) (grind (arith, nat_tests, below, one, few, marked))
  | inr past ↦ let none = get_or_past marks p 0 past in rw (sym is) (grind (arith, nat_tests, past, none, marked))
]

-- ---- what a run is closed with

-- where the least place that does not agree is told, it does not, and all below it do
pub told_place : (h : List Record) (held all : List Held) (received : List Record) (least : Option ℕ) (place : ℕ) → held ≡ all → least ≡ Some place
    → ((p : ℕ) → IsBefore p least → Agrees h held received p) → IfSome least (λ q. Agrees h held received q → ⊥)
    → IsLeast h all received place
told_place h held all received least place same is agree broken =
    let below = subst (λ (o : Option ℕ). (p : ℕ) → IsBefore p o → Agrees h held received p) is agree in
    let not_agreed = subst (λ (o : Option ℕ). IfSome o (λ q. Agrees h held received q → ⊥)) is broken in
    subst (λ (hs : List Held). IsLeast h hs received place) same (not_agreed, below)

-- where none is told, all places agree
pub all_agree : (h : List Record) (held all : List Held) (received : List Record) (least : Option ℕ) → held ≡ all → least ≡ None
    → ((p : ℕ) → IsBefore p least → Agrees h held received p)
    → AreAll h all received
all_agree h held all received least same is agree p =
    let at : IsBefore p None → Agrees h held received p = subst (λ (o : Option ℕ). IsBefore p o → Agrees h held received p) is (agree p) in
    subst (λ (hs : List Held). Agrees h hs received p) same (at tt)

-- lists that have the same at each place are one
same_everywhere : {X : Type 0} (xs ys : List X) → ((k : ℕ) → slice_get xs k ≡ slice_get ys k) → xs ≡ ys
same_everywhere [] [] h = refl
same_everywhere [] (y ∷ ys) h = absurd (let e : None ≡ Some y = h 0 in cc)
same_everywhere (x ∷ xs) [] h = absurd (let e : Some x ≡ None = h 0 in cc)
same_everywhere (x ∷ xs) (y ∷ ys) h =
    let first : Some x ≡ Some y = h 0 in
    let e : x ≡ y = cc in
    let rest : xs ≡ ys = same_everywhere xs ys (λ k. h (suc k)) in
    cc

-- where all places agree, what was received is the records
pub received_all : (h : List Record) (held : List Held) (received : List Record) → AreAll h held received → received ≡ h
received_all h held received all = same_everywhere received h (λ k. (all k).received_is)

-- what was received past the end of the records, of which there are none, does not differ
pub received_past : (h received : List Record) (records most p : ℕ) → records ≡ length h → records ≤ most → length received ≤ most → most ≤ p →
    slice_get received p ≡ slice_get h p
received_past h received records most p is few short past = slice_get_past received p (omega (arith, short, past)) ∙
    sym (slice_get_past h p (omega (arith, is, few, past)))

-- seats beside which there is nobody
pub seats_alone : (seats others all : List SeatState) → seats ≡ all → others ≡ [] → map held_in seats ++ map held_in others ≡ map held_in all
seats_alone seats others all is none = ap (λ (hs : List SeatState). map held_in seats ++ map held_in hs) none ∙
    (append-nil (map held_in seats) ∙ ap (map held_in) is)

-- holders beside whom there is the house
pub with_house : (held : List Held) (houses : List SeatState) (house : SeatState) → houses ≡ house ∷ [] →
    held ++ map held_in houses ≡ held ++ held_in house ∷ []
with_house held houses house is = ap (λ (hs : List SeatState). held ++ map held_in hs) is
