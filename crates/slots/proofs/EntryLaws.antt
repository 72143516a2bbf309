use Rattle.std.proofs.Common.{◌≡◌, ◌≢◌, ℕ, zero, suc, ◌+◌, ◌≤◌, ◌<◌, ◌∙◌, true, false, cond, List, [], ◌∷◌, ◌++◌, Option, None, Some, length, map, set, get_or, refl, ap, sym, arith, length-set, length-append, Result, Ok, Err, IfOk, IfErr, inl, inr}
use Rattle.std.specs.Prelude.{◌==◌}
use Rattle.std.specs.List.{sum_by, range_with_len, remove}
use Rattle.std.specs.List.Sorted.{IsSearchInRange, IsBinarySearchResult, IsNonDecreasingBy}
use Rattle.std.specs.Ordering.{nat_cmp, ordering_index}
use Rattle.std.proofs.lemmas.Cmp.{ranked}
use Rattle.std.proofs.lemmas.List.{ext_get_or, get_or-set_same, get_or-set_other}
use Rattle.std.proofs.lemmas.List.FromFn.{length-map-range_with_len, get_or-map-range_with_len}
use Rattle.std.proofs.lemmas.List.Sums.{sum_by-set, sum_by-cons}
use Rattle.std.proofs.lemmas.Bool.Decides.{nat_tests}
use Rattle.std.proofs.lemmas.Grind.{common_steps}
use Rattle.slots.specs.Slots.{slot, live}
use Rattle.slots.specs.NumberedSlots.{found, slots_of, room_of}
use Rattle.slots.specs.Proved.Entries.{EntriesRise, IsAt}
use Rattle.slots.proofs.SlotLaws.{same_or_not, other_number, is_itself, order, slot_past, slot_added}

module _ {T : Type 0} where
  pub rises_from : (low lower : ℕ) (es : List (ℕ × T)) (high : ℕ) → lower ≤ low → EntriesRise low es high → EntriesRise lower es high
  rises_from low lower [] high le up = omega (arith, up)
  rises_from low lower (e ∷ es) high le up = (omega (arith, up.0), up.1)

  pub found_below : (low : ℕ) (es : List (ℕ × T)) (high n : ℕ) → EntriesRise low es high → n < low → found es n ≡ None
  found_below low [] high n up below = refl
  found_below low (e ∷ es) high n up below = rw (other_number n e.0 (omega (arith, up.0))) (found_below (suc e.0) es high n up.1 (omega (arith, up.0)))

  bounded : (low : ℕ) (es : List (ℕ × T)) (high : ℕ) → EntriesRise low es high → low ≤ high
  bounded low [] high up = up
  bounded low (e ∷ es) high up = omega (arith, up.0, bounded (suc e.0) es high up.1)

  pub found_above : (low : ℕ) (es : List (ℕ × T)) (high n : ℕ) → EntriesRise low es high → high ≤ n → found es n ≡ None
  found_above low [] high n up above = refl
  found_above low (e ∷ es) high n up above = rw (other_number n e.0 (omega (arith, bounded (suc e.0) es high up.1)))
      (found_above (suc e.0) es high n up.1 above)

  -- an entry from the lowest on
  at_least : (low : ℕ) (es : List (ℕ × T)) (high i : ℕ) (d : ℕ × T) → EntriesRise low es high → i < length es → low ≤ (get_or es i d).0
  at_least low [] high i d up within = absurd (omega arith)
  at_least low (e ∷ es) high zero d up within = up.0
  at_least low (e ∷ es) high (suc i) d up within = omega (arith, up.0, at_least (suc e.0) es high i d up.1 (omega arith))

  numbers_rise : (low : ℕ) (es : List (ℕ × T)) (high i j : ℕ) (d : ℕ × T) → EntriesRise low es high → i ≤ j → j < length es →
      (get_or es i d).0 ≤ (get_or es j d).0
  numbers_rise low [] high i j d up le within = absurd (omega arith)
  numbers_rise low (e ∷ es) high zero zero d up le within = omega arith
  numbers_rise low (e ∷ es) high zero (suc j) d up le within = omega (arith, at_least (suc e.0) es high j d up.1 (omega arith))
  numbers_rise low (e ∷ es) high (suc i) zero d up le within = absurd (omega arith)
  numbers_rise low (e ∷ es) high (suc i) (suc j) d up le within = numbers_rise (suc e.0) es high i j d up.1 (omega arith) (omega arith)

  -- in the tail an index is one lower
  at_tail : (e : ℕ × T) (es : List (ℕ × T)) (n i : ℕ) → IsAt (e ∷ es) n (suc i) → IsAt es n i
  at_tail e es n i at = record { within = omega (arith, at.within); number = at.number }

  first_apart : (low : ℕ) (e : ℕ × T) (es : List (ℕ × T)) (high n i : ℕ) → EntriesRise low (e ∷ es) high → IsAt (e ∷ es) n (suc i) → e.0 < n
  first_apart low e es high n i up at = omega (arith, at_least (suc e.0) es high i e up.1 (omega (arith, at.within)), at.number e)

  pub found_at : (low : ℕ) (es : List (ℕ × T)) (high n i : ℕ) (d : ℕ × T) → EntriesRise low es high → IsAt es n i → found es n ≡ Some (get_or es i d).1
  found_at low [] high n i d up at = absurd (omega (arith, at.within))
  found_at low (e ∷ es) high n zero d up at = let same : e.0 ≡ n = at.number d in rw (← same, is_itself e.0) refl
  found_at low (e ∷ es) high n (suc i) d up at =
      rw (other_number n e.0 (omega (arith, first_apart low e es high n i up at))) (found_at (suc e.0) es high n i d up.1 (at_tail e es n i at))

  found_nowhere : (es : List (ℕ × T)) (n : ℕ) → ((i : ℕ) (d : ℕ × T) → i < length es → (get_or es i d).0 ≢ n) → found es n ≡ None
  found_nowhere [] n none = refl
  found_nowhere (e ∷ es) n none = rw (other_number n e.0 (λ same. none 0 e (omega arith) (sym same)))
      (found_nowhere es n (λ i d within. none (suc i) d (omega arith)))

  -- a binary search by number ends at the entry, or there is none
  pub searched : (low : ℕ) (es : List (ℕ × T)) (high n : ℕ) → EntriesRise low es high → (r : Result ℕ ℕ) → IsSearchInRange r (length es) →
      IsBinarySearchResult (λ e. nat_cmp e.0 n) es r →
      record { there : IfOk r (IsAt es n); gone : IfErr r (λ _. found es n ≡ None) }
  searched low es high n up (Ok i) within equal = record { there = record { within = within; number = λ d. ranked _ n _ (sym (equal d)) }; gone = tt }
  searched low es high n up (Err i) within parted =
      let rising : IsNonDecreasingBy (λ e. ordering_index (nat_cmp e.0 n)) es = λ a b d le lt. compared (get_or es a d).0 (get_or es b d).0
      (numbers_rise low es high a b d up le lt) in
      let split = parted rising in
      record {
        there = tt;
        gone = found_nowhere es n (λ k d lt same. elim (order k i) [
          | inl before ↦ let less : (get_or es k d).0 < n = ranked _ n _ (sym (split.0 k d (omega arith) before)) in omega (arith, less, same)
          | inr after ↦ let more : n < (get_or es k d).0 = ranked _ n _ (sym (split.1 k d after lt)) in omega (arith, more, same)
        ]);
      }
    where
      compared : (a b : ℕ) → a ≤ b → ordering_index (nat_cmp a n) ≤ ordering_index (nat_cmp b n)
      compared a b le = grind (arith, nat_tests)

  -- an entry is written over
  pub rises_set : (low : ℕ) (es : List (ℕ × T)) (high n i : ℕ) (v : T) → EntriesRise low es high → IsAt es n i → EntriesRise low (set es i (n, v)) high
  rises_set low [] high n i v up at = up
  rises_set low (e ∷ es) high n zero v up at = let same : e.0 ≡ n = at.number e in rw same at up
  rises_set low (e ∷ es) high n (suc i) v up at = (up.0, rises_set (suc e.0) es high n i v up.1 (at_tail e es n i at))

  found_set : (low : ℕ) (es : List (ℕ × T)) (high n i : ℕ) (v : T) → EntriesRise low es high → IsAt es n i → (q : ℕ) → found (set es i (n, v)) q ≡ cond (n == q)
      (Some v) (found es q)
  found_set low [] high n i v up at q = absurd (omega (arith, at.within))
  found_set low (e ∷ es) high n zero v up at q =
      let same : e.0 ≡ n = at.number e in
      rw same (elim (n == q) as (λ b. cond b (Some v) (found es q) ≡ cond b (Some v) (cond b (Some e.1) (found es q))) [ true ↦ refl | false ↦ refl ])
  found_set low (e ∷ es) high n (suc i) v up at q =
      let rest = found_set (suc e.0) es high n i v up.1 (at_tail e es n i at) q in
      elim (same_or_not e.0 q) [
        | inl same ↦ let apart : (n == q) ≡ false = other_number q n (omega (arith, same.0, first_apart low e es high n i up at)) in rw (same.1, apart) refl
        | inr other ↦ rw other.1 rest
      ]

  -- an entry is taken out
  pub rises_removed : (low : ℕ) (es : List (ℕ × T)) (high i : ℕ) → EntriesRise low es high → EntriesRise low (remove es i) high
  rises_removed low [] high zero up = up
  rises_removed low [] high (suc i) up = up
  rises_removed low (e ∷ es) high zero up = rises_from (suc e.0) low es high (omega (arith, up.0)) up.1
  rises_removed low (e ∷ es) high (suc i) up = (up.0, rises_removed (suc e.0) es high i up.1)

  found_removed : (low : ℕ) (es : List (ℕ × T)) (high n i : ℕ) → EntriesRise low es high → IsAt es n i → (q : ℕ) → found (remove es i) q ≡ cond (n == q) None
      (found es q)
  found_removed low [] high n i up at q = absurd (omega (arith, at.within))
  found_removed low (e ∷ es) high n zero up at q =
      let same : e.0 ≡ n = at.number e in
      elim (same_or_not n q) [
        | inl here ↦ let gone : found es q ≡ None = found_below (suc e.0) es high q up.1 (omega (arith, same, here.0)) in rw (here.1, gone) refl
        | inr other ↦ rw (same, other.1) refl
      ]
  found_removed low (e ∷ es) high n (suc i) up at q =
      let rest = found_removed (suc e.0) es high n i up.1 (at_tail e es n i at) q in
      elim (same_or_not e.0 q) [
        | inl same ↦ let apart : (n == q) ≡ false = other_number q n (omega (arith, same.0, first_apart low e es high n i up at)) in rw (same.1, apart) refl
        | inr other ↦ rw other.1 rest
      ]

  -- an entry is added
  pub rises_pushed : (low : ℕ) (es : List (ℕ × T)) (high : ℕ) (v : T) → EntriesRise low es high → EntriesRise low (es ++ (high, v) ∷ []) (high + 1)
  rises_pushed low [] high v up = (up, omega arith)
  rises_pushed low (e ∷ es) high v up = (up.0, rises_pushed (suc e.0) es high v up.1)

  found_pushed : (es : List (ℕ × T)) (high : ℕ) (v : T) (q : ℕ) → found es high ≡ None → found (es ++ (high, v) ∷ []) q ≡ cond (high == q) (Some v) (found es q)
  found_pushed [] high v q none = refl
  found_pushed (e ∷ es) high v q none =
      elim (same_or_not e.0 q) [
        | inl same ↦ elim (same_or_not high q) [
          | inl here ↦ let bad : cond (e.0 == high) (Some e.1) (found es high) ≡ Some e.1 = rw (here.0, same.1) refl in let worse : None ≡ Some e.1 = sym none ∙
              bad in cc
          | inr apart ↦ rw (same.1, apart.1) refl
        ]
        | inr other ↦ elim (same_or_not e.0 high) [
          | inl bad ↦ let worse : Some e.1 ≡ None = rw bad.1 at none in cc
          | inr apart ↦ rw other.1 (found_pushed es high v q (rw apart.1 at none))
        ]
      ]

  -- the slots
  pub length_slots : (next : ℕ) (es : List (ℕ × T)) → length (slots_of next es) ≡ next
  length_slots next es = length-map-range_with_len (found es) 0 next

  pub slot_slots : (next : ℕ) (es : List (ℕ × T)) (n : ℕ) → EntriesRise 0 es next → slot (slots_of next es) n ≡ found es n
  slot_slots next es n up = elim (order n next) [
    | inl below ↦ get_or-map-range_with_len (found es) 0 next n n None below (omega arith)
    | inr above ↦ slot_past (slots_of next es) n (omega (arith, length_slots next es)) ∙ sym (found_above 0 es next n up above)
  ]

  -- lists with the same slots
  pub same_slots : (xs ys : List (Option T)) → length xs ≡ length ys → ((n : ℕ) → n < length xs → slot xs n ≡ slot ys n) → xs ≡ ys
  same_slots xs ys long each = ext_get_or None xs ys long each

  -- the slots with one set
  one_set : (next : ℕ) (es : List (ℕ × T)) (n : ℕ) (y : Option T) (q : ℕ) → EntriesRise 0 es next → q < next → slot (set (slots_of next es) n y) q ≡ cond
      (n == q) y (found es q)
  one_set next es n y q up below = elim (same_or_not n q) [
    | inl same ↦ rw (same.1, same.0) (get_or-set_same (slots_of next es) q y None (omega (arith, below, length_slots next es)))
    | inr other ↦ rw other.1 (get_or-set_other (slots_of next es) n q y None (λ e. other.0 (sym e)) ∙ slot_slots next es q up)
  ]

  -- other entries give the slots with one set
  slots_one : (next : ℕ) (es fs : List (ℕ × T)) (n : ℕ) (y : Option T) → EntriesRise 0 es next → EntriesRise 0 fs next →
      ((q : ℕ) → found fs q ≡ cond (n == q) y (found es q)) →
      slots_of next fs ≡ set (slots_of next es) n y
  slots_one next es fs n y up on each = same_slots (slots_of next fs) (set (slots_of next es) n y)
      (length_slots next fs ∙ sym (length-set (slots_of next es) n y ∙ length_slots next es))
      (λ q below. slot_slots next fs q on ∙ (each q ∙ sym (one_set next es n y q up (omega (arith, below, length_slots next fs)))))

  pub slots_set : (next : ℕ) (es : List (ℕ × T)) (n i : ℕ) (v : T) → EntriesRise 0 es next → IsAt es n i →
      slots_of next (set es i (n, v)) ≡ set (slots_of next es) n (Some v)
  slots_set next es n i v up at = slots_one next es (set es i (n, v)) n (Some v) up (rises_set 0 es next n i v up at) (found_set 0 es next n i v up at)

  pub slots_removed : (next : ℕ) (es : List (ℕ × T)) (n i : ℕ) → EntriesRise 0 es next → IsAt es n i →
      slots_of next (remove es i) ≡ set (slots_of next es) n None
  slots_removed next es n i up at = slots_one next es (remove es i) n None up (rises_removed 0 es next i up) (found_removed 0 es next n i up at)

  -- nothing stands there, so clearing it changes nothing
  pub slots_absent : (next : ℕ) (es : List (ℕ × T)) (n : ℕ) → EntriesRise 0 es next → found es n ≡ None → slots_of next es ≡ set (slots_of next es) n None
  slots_absent next es n up gone = slots_one next es es n None up up (λ q. elim (same_or_not n q) [
    | inl same ↦ rw same.1 (ap (found es) (sym same.0) ∙ gone)
    | inr other ↦ rw other.1 refl
  ])

  pub slots_pushed : (next : ℕ) (es : List (ℕ × T)) (v : T) → EntriesRise 0 es next → slots_of (next + 1) (es ++ (next, v) ∷ [])
      ≡ slots_of next es ++ Some v ∷ []
  slots_pushed next es v up =
      let more = es ++ (next, v) ∷ [] in
      let long : length (slots_of next es ++ Some v ∷ []) ≡ next + 1 = length-append (slots_of next es) (Some v ∷ []) ∙
      ap (λ n. n + 1) (length_slots next es) in
      same_slots (slots_of (next + 1) more) (slots_of next es ++ Some v ∷ [])
      (length_slots (next + 1) more ∙ sym long)
      (λ q below. slot_slots (next + 1) more q (rises_pushed 0 es next v up) ∙ (found_pushed es next v q (found_above 0 es next next up (omega arith)) ∙
      sym (at_end q)))
    where
      at_end : (q : ℕ) → slot (slots_of next es ++ Some v ∷ []) q ≡ cond (next == q) (Some v) (found es q)
      at_end q = slot_added (slots_of next es) (Some v) q ∙ rw (length_slots next es, slot_slots next es q up) refl

  -- a sum over the slots is a sum over the entries
  pub sum_slots : (f : Option T → ℕ) → f None ≡ 0 → (low : ℕ) (es : List (ℕ × T)) (next : ℕ) → EntriesRise low es next →
      sum_by f (slots_of next es) ≡ sum_by (λ e. f (Some e.1)) es
  sum_slots f none low [] next up = nothing next 0
    where
      nothing : (n a : ℕ) → sum_by f (map (found {T = T} []) (range_with_len a n)) ≡ 0
      nothing zero a = refl
      nothing (suc n) a = omega (arith, none, nothing n (a + 1), sum_by-cons f None (map (found {T = T} []) (range_with_len (a + 1) n)))
  sum_slots f none low (e ∷ es) next up =
      let rest = sum_slots f none (suc e.0) es next up.1 in
      let on : EntriesRise 0 es next = rises_from (suc e.0) 0 es next (omega arith) up.1 in
      let with_first : slots_of next (e ∷ es) ≡ set (slots_of next es) e.0 (Some e.1) = slots_one next es (e ∷ es) e.0 (Some e.1) on (omega arith, up.1)
      (λ q. refl) in
      let gone : f (slot (slots_of next es) e.0) ≡ 0 = ap f (slot_slots next es e.0 on ∙ found_below (suc e.0) es next e.0 up.1 (omega arith)) ∙ none in
      let within : e.0 < length (slots_of next es) = omega (arith, length_slots next es, bounded (suc e.0) es next up.1) in
      rw with_first (omega (arith, rest, gone, sum_by-set f (slots_of next es) e.0 (Some e.1) None within, sum_by-cons (λ e. f (Some e.1)) e es))

-- an entry that is edited where it stands, or taken out: g is what becomes of its slot
module _ {T : Type 0} (next : ℕ) (es : List (ℕ × T)) (n : ℕ) (up : EntriesRise 0 es next) where
  pub stands : (i : ℕ) (e : ℕ × T) → IsAt es n i → e ≡ get_or es i e → slot (slots_of next es) n ≡ Some e.1
  stands i e at is = slot_slots next es n up ∙ (found_at 0 es next n i e up at ∙ ap (λ e. Some e.1) (sym is))

  pub rises_edited : (i : ℕ) (e : ℕ × T) (y : T) → IsAt es n i → e ≡ get_or es i e → EntriesRise 0 (set es i (e.0, y)) next
  rises_edited i e y at is =
      let number : e.0 ≡ n = ap (λ e. e.0) is ∙ at.number e in
      rw number (rises_set 0 es next n i y up at)

  pub slots_edited : (g : Option T → Option T) (i : ℕ) (e : ℕ × T) (y : T) → IsAt es n i → e ≡ get_or es i e → g (Some e.1) ≡ Some y →
      slots_of next (set es i (e.0, y)) ≡ set (slots_of next es) n (g (slot (slots_of next es) n))
  slots_edited g i e y at is change =
      let number : e.0 ≡ n = ap (λ e. e.0) is ∙ at.number e in
      rw (stands i e at is, number, change) (slots_set next es n i y up at)

  pub slots_gone : (g : Option T → Option T) (i : ℕ) (e : ℕ × T) → IsAt es n i → e ≡ get_or es i e → g (Some e.1) ≡ None →
      slots_of next (remove es i) ≡ set (slots_of next es) n (g (slot (slots_of next es) n))
  slots_gone g i e at is change = rw (stands i e at is, change) (slots_removed next es n i up at)

  pub slots_same : (g : Option T → Option T) → found es n ≡ None → g None ≡ None → slots_of next es ≡ set (slots_of next es) n (g (slot (slots_of next es) n))
  slots_same g gone change = rw (slot_slots next es n up, gone, change) (slots_absent next es n up gone)

-- room stays where nothing changes, and there is more where an entry goes
pub same_room : (room : ℕ) → room ≤ room
same_room room = omega arith

pub one_more_room : (room : ℕ) → room ≤ room + 1
one_more_room room = omega arith

pub more_room : (old_capacity capacity old_live live next : ℕ) → capacity ≡ old_capacity → live + 1 ≡ old_live →
    (room_of old_capacity old_live next ≤ room_of capacity live next) × (room_of capacity live next ≤ room_of old_capacity old_live next + 1)
more_room old_capacity capacity old_live live next same less = (grind (arith, common_steps), grind (arith, common_steps))

-- and less where one is added
pub less_room : (old_capacity capacity old_live live next : ℕ) → capacity ≡ old_capacity → live ≡ old_live + 1 → 0 < room_of old_capacity old_live next →
    room_of capacity live (next + 1) + 1 ≡ room_of old_capacity old_live next
less_room old_capacity capacity old_live live next same more some = grind (arith, common_steps)
