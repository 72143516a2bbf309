use Rattle.std.proofs.Common.{◌≡◌, ◌≢◌, ℕ, zero, suc, ◌+◌, ◌≤◌, ◌<◌, ◌∙◌, true, false, cond, List, [], ◌∷◌, ◌++◌, Option, None, Some, length, map, set, refl, ap, sym, arith, length-set, length-append, inl, inr}
use Rattle.std.specs.Prelude.{◌==◌, is_some, count_by}
use Rattle.std.specs.List.{range_with_len}
use Rattle.std.proofs.lemmas.List.{get_or-set_same, get_or-set_other}
use Rattle.std.proofs.lemmas.List.FromFn.{length-map-range_with_len, get_or-map-range_with_len}
use Rattle.std.proofs.lemmas.List.Sums.{sum_by-set, sum_by-cons}
use Rattle.slots.specs.Slots.{slot, live}
use Rattle.slots.specs.NumberedSlots.{room_of}
use Rattle.slots.proofs.SlotLaws.{one, same_or_not, other_number, is_itself, order, slot_past, slot_added}
use Rattle.slots.proofs.EntryLaws.{same_slots}
use Rattle.slots.specs.declared.keyed.Entry.{Entry}
use Rattle.slots.specs.KeyedSlots.{found, slots_of}
use Rattle.slots.specs.Proved.Keys.{AreNumbered, HasNumber}

pub told_same : (m n : ℕ) → (m == n) ≡ true → m ≡ n
told_same m n told = elim (same_or_not m n) [
  | inl same ↦ same.0
  | inr other ↦ let bad : false ≡ true = sym other.1 ∙ told in absurd (cc)
]

module _ {T : Type 0} where
  tail_numbered : (x : Option (Entry T)) (es : List (Option (Entry T))) (next : ℕ) → AreNumbered (x ∷ es) next → AreNumbered es next
  tail_numbered x es next are = record {
    below = λ k e at. are.below (suc k) e at;
    once = λ j k d e this that same. omega (arith, are.once (suc j) (suc k) d e this that same);
  }

  -- where no entry has a number, nothing is found
  pub found_nowhere : (es : List (Option (Entry T))) (n : ℕ) → ((k : ℕ) (e : Entry T) → slot es k ≡ Some e → e.number ≢ n) → found es n ≡ None
  found_nowhere [] n none = refl
  found_nowhere (None ∷ es) n none = found_nowhere es n (λ k e at. none (suc k) e at)
  found_nowhere (Some d ∷ es) n none = rw (other_number n d.number (λ same. none 0 d refl (sym same))) (found_nowhere es n (λ k e at. none (suc k) e at))

  -- what stands under a key is found by its number
  pub found_at : (es : List (Option (Entry T))) (next k : ℕ) (e : Entry T) → AreNumbered es next → slot es k ≡ Some e → found es e.number ≡ Some e.value
  found_at [] next k e are at = absurd (cc)
  found_at (None ∷ es) next zero e are at = absurd (cc)
  found_at (None ∷ es) next (suc k) e are at = found_at es next k e (tail_numbered None es next are) at
  found_at (Some d ∷ es) next zero e are at = let same : e ≡ d = cc in rw (same, is_itself d.number) refl
  found_at (Some d ∷ es) next (suc k) e are at =
      let apart : e.number ≢ d.number = λ same. omega (arith, are.once 0 (suc k) d e refl at (sym same)) in
      rw (other_number e.number d.number apart) (found_at es next k e (tail_numbered (Some d) es next are) at)

  -- the entry of what is found
  record Stands (es : List (Option (Entry T))) (n : ℕ) (v : T) : Type 0 where
    key : ℕ
    entry : Entry T
    there : slot es key ≡ Some entry
    number : entry.number ≡ n
    value : entry.value ≡ v

  stands : (es : List (Option (Entry T))) (n : ℕ) (v : T) → found es n ≡ Some v → Stands es n v
  stands [] n v is = absurd (cc)
  stands (None ∷ es) n v is =
      let rest = stands es n v is in
      record { key = suc rest.key; entry = rest.entry; there = rest.there; number = rest.number; value = rest.value }
  stands (Some d ∷ es) n v is = elim (same_or_not d.number n) [
    | inl same ↦ let here : Some d.value ≡ Some v = rw same.1 at is in record { key = 0; entry = d; there = refl; number = same.0; value = cc }
    | inr other ↦
        let rest = stands es n v (rw other.1 at is) in
        record { key = suc rest.key; entry = rest.entry; there = rest.there; number = rest.number; value = rest.value }
  ]

  -- a number whose entries are the same is found the same
  found_same : (es fs : List (Option (Entry T))) (next after n : ℕ) → AreNumbered es next → AreNumbered fs after →
      ((k : ℕ) (e : Entry T) → e.number ≡ n → slot es k ≡ Some e → slot fs k ≡ Some e) →
      ((k : ℕ) (e : Entry T) → e.number ≡ n → slot fs k ≡ Some e → slot es k ≡ Some e) → found fs n ≡ found es n
  found_same es fs next after n are stay into back = by_old (found es n) refl
    where
      by_old : (old : Option T) → found es n ≡ old → found fs n ≡ old
      by_old None none = found_nowhere fs n (λ k e at same. let still = found_at es next k e are (back k e same at) in let bad : None ≡ Some e.value =
          sym none ∙ ap (found es) (sym same) ∙ still in cc)
      by_old (Some v) some =
          let old = stands es n v some in
          ap (found fs) (sym old.number) ∙ (found_at fs after old.key old.entry stay (into old.key old.entry old.number old.there) ∙ ap Some old.value)

  -- the entries are the same under all keys but one
  abbrev pub SameBut : List (Option (Entry T)) → List (Option (Entry T)) → ℕ → Type 0
  SameBut es fs key = (k : ℕ) → k ≢ key → slot fs k ≡ slot es k

  -- where each entry has the number that it had, all are numbered
  still_numbered : (es fs : List (Option (Entry T))) (next : ℕ) → AreNumbered es next →
      ((k : ℕ) (e : Entry T) → slot fs k ≡ Some e → (d : Entry T) × (slot es k ≡ Some d) × (d.number ≡ e.number)) → AreNumbered fs next
  still_numbered es fs next are was = record {
    below = λ k e at. let old = was k e at in omega (arith, are.below k old.0 old.1, old.2);
    once = λ j k d e this that same. let left = was j d this in let right = was k e that in are.once j k left.0 right.0 left.1 right.1
        (left.2 ∙ same ∙ sym right.2);
  }

  -- other entries, with one number's changed
  one_found : (es fs : List (Option (Entry T))) (next after key n : ℕ) (y : Option T) → AreNumbered es next → AreNumbered fs after → SameBut es fs key →
      ((e : Entry T) → slot es key ≡ Some e → e.number ≡ n) → ((e : Entry T) → slot fs key ≡ Some e → e.number ≡ n) → found fs n ≡ y →
      (q : ℕ) → found fs q ≡ cond (n == q) y (found es q)
  one_found es fs next after key n y are stay others was is here q = elim (same_or_not n q) [
    | inl same ↦ rw same.1 (ap (found fs) (sym same.0) ∙ here)
    | inr other ↦ rw other.1 (found_same es fs next after q are stay
        (λ k e number at. elim (same_or_not k key) [
          | inl same ↦ absurd (other.0 (sym (was e (ap (slot es) (sym same.0) ∙ at)) ∙ number))
          | inr apart ↦ others k apart.0 ∙ at
        ])
        (λ k e number at. elim (same_or_not k key) [
          | inl same ↦ absurd (other.0 (sym (is e (ap (slot fs) (sym same.0) ∙ at)) ∙ number))
          | inr apart ↦ sym (others k apart.0) ∙ at
        ]))
  ]

  -- the slots
  pub length_slots : (next : ℕ) (es : List (Option (Entry T))) → length (slots_of next es) ≡ next
  length_slots next es = length-map-range_with_len (found es) 0 next

  found_above : (es : List (Option (Entry T))) (next n : ℕ) → AreNumbered es next → next ≤ n → found es n ≡ None
  found_above es next n are above = found_nowhere es n (λ k e at same. omega (arith, are.below k e at, same, above))

  pub slot_slots : (next : ℕ) (es : List (Option (Entry T))) (n : ℕ) → AreNumbered es next → slot (slots_of next es) n ≡ found es n
  slot_slots next es n are = elim (order n next) [
    | inl below ↦ get_or-map-range_with_len (found es) 0 next n n None below (omega arith)
    | inr above ↦ slot_past (slots_of next es) n (omega (arith, length_slots next es)) ∙ sym (found_above es next n are above)
  ]

  -- the slots with one set
  one_set : (next : ℕ) (es : List (Option (Entry T))) (n : ℕ) (y : Option T) (q : ℕ) → AreNumbered es next → q < next →
      slot (set (slots_of next es) n y) q ≡ cond (n == q) y (found es q)
  one_set next es n y q are below = elim (same_or_not n q) [
    | inl same ↦ rw (same.1, same.0) (get_or-set_same (slots_of next es) q y None (omega (arith, below, length_slots next es)))
    | inr other ↦ rw other.1 (get_or-set_other (slots_of next es) n q y None (λ e. other.0 (sym e)) ∙ slot_slots next es q are)
  ]

  -- other entries give the slots with one set
  slots_one : (next : ℕ) (es fs : List (Option (Entry T))) (n : ℕ) (y : Option T) → AreNumbered es next → AreNumbered fs next →
      ((q : ℕ) → found fs q ≡ cond (n == q) y (found es q)) →
      slots_of next fs ≡ set (slots_of next es) n y
  slots_one next es fs n y are stay each = same_slots (slots_of next fs) (set (slots_of next es) n y)
      (length_slots next fs ∙ sym (length-set (slots_of next es) n y ∙ length_slots next es))
      (λ q below. slot_slots next fs q stay ∙ (each q ∙ sym (one_set next es n y q are (omega (arith, below, length_slots next fs)))))

-- an entry that has a number under a key
module _ {T : Type 0} (next : ℕ) (es : List (Option (Entry T))) (n key : ℕ) (are : AreNumbered es next) (at : HasNumber es key n) where
  pub slot_at : slot (slots_of next es) n ≡ Some at.entry.value
  slot_at = slot_slots next es n are ∙ (ap (found es) (sym at.number) ∙ found_at es next key at.entry are at.there)

  pub stands_at : (e : Entry T) → slot es key ≡ Some e → slot (slots_of next es) n ≡ Some e.value
  stands_at e is = let same : Some e ≡ Some at.entry = sym is ∙ at.there in let inner : e ≡ at.entry = cc in rw inner slot_at

  its_number : (e : Entry T) → slot es key ≡ Some e → e.number ≡ n
  its_number e is = let same : Some e ≡ Some at.entry = sym is ∙ at.there in let inner : e ≡ at.entry = cc in rw inner at.number

  -- its value is edited
  module _ (e : Entry T) (is : slot es key ≡ Some e) (v : T) where
    within : key < length es
    within = elim (order key (length es)) [
      | inl below ↦ below
      | inr past ↦ let bad : None ≡ Some e = sym (slot_past es key past) ∙ is in absurd (cc)
    ]

    others : SameBut es (set es key (Some (record { number = e.number; value = v }))) key
    others k apart = get_or-set_other es key k (Some (record { number = e.number; value = v })) None apart

    now : slot (set es key (Some (record { number = e.number; value = v }))) key ≡ Some (record { number = e.number; value = v })
    now = get_or-set_same es key (Some (record { number = e.number; value = v })) None within

    new_one : (d : Entry T) → slot (set es key (Some (record { number = e.number; value = v }))) key ≡ Some d → d ≡ record { number = e.number; value = v }
    new_one d this = let here : Some d ≡ Some (record { number = e.number; value = v }) = sym this ∙ now in cc

    pub edited_numbered : AreNumbered (set es key (Some (record { number = e.number; value = v }))) next
    edited_numbered = still_numbered es _ next are (λ k d this. elim (same_or_not k key) [
      | inl same ↦
          let inner = new_one d (ap (slot (set es key (Some (record { number = e.number; value = v })))) (sym same.0) ∙ this) in
          (e, ap (slot es) same.0 ∙ is, rw inner refl)
      | inr apart ↦ (d, sym (others k apart.0) ∙ this, refl)
    ])

    pub slots_edited : slots_of next (set es key (Some (record { number = e.number; value = v }))) ≡ set (slots_of next es) n (Some v)
    slots_edited =
        let number = its_number e is in
        let fs = set es key (Some (record { number = e.number; value = v })) in
        slots_one next es fs n (Some v) are edited_numbered (one_found es fs next next key n (Some v) are edited_numbered others its_number
        (λ d this. ap (λ (d : Entry T). d.number) (new_one d this) ∙ number)
        (ap (found fs) (sym number) ∙ found_at fs next key (record { number = e.number; value = v }) edited_numbered now))

    live_edited : count_by is_some (set es key (Some (record { number = e.number; value = v }))) ≡ count_by is_some es
    live_edited =
        let there : one (is_some (slot es key)) ≡ 1 = rw is refl in
        omega (arith, there, sum_by-set (λ (x : Option (Entry T)). one (is_some x)) es key (Some (record { number = e.number; value = v })) None within)

    -- what is seen of it then
    pub seen_edited : (capacity : ℕ) → ◌≡◌ {A = List (Option T) × ℕ} (
      slots_of next (set es key (Some (record { number = e.number; value = v }))),
      room_of capacity (count_by is_some (set es key (Some (record { number = e.number; value = v })))) next,
    )
        (set (slots_of next es) n (Some v), room_of capacity (count_by is_some es) next)
    seen_edited capacity = rw (slots_edited, live_edited) refl

  -- it is taken out
  pub removed_numbered : (fs : List (Option (Entry T))) → SameBut es fs key → slot fs key ≡ None → AreNumbered fs next
  removed_numbered fs others now = still_numbered es fs next are (λ k e is. elim (same_or_not k key) [
    | inl same ↦ let bad : Some e ≡ None = sym is ∙ (ap (slot fs) same.0 ∙ now) in absurd (cc)
    | inr apart ↦ (e, sym (others k apart.0) ∙ is, refl)
  ])

  pub slots_removed : (fs : List (Option (Entry T))) → SameBut es fs key → slot fs key ≡ None → slots_of next fs ≡ set (slots_of next es) n None
  slots_removed fs others now =
      let stay = removed_numbered fs others now in
      let nobody : (e : Entry T) → slot fs key ≡ Some e → e.number ≡ n = λ e is. let bad : Some e ≡ None = sym is ∙ now in absurd (cc) in
      let gone : found fs n ≡ None = found_nowhere fs n (λ k e is number. elim (same_or_not k key) [
        | inl same ↦ let bad : Some e ≡ None = sym is ∙ (ap (slot fs) same.0 ∙ now) in cc
        | inr apart ↦ apart.0 (are.once k key e at.entry (sym (others k apart.0) ∙ is) at.there (number ∙ sym at.number))
      ]) in
      slots_one next es fs n None are stay (one_found es fs next next key n None are stay others its_number nobody gone)

module _ {T : Type 0} (next : ℕ) (es : List (Option (Entry T))) (are : AreNumbered es next) where
  -- nothing stands there, so clearing it changes nothing
  pub slots_absent : (n : ℕ) → found es n ≡ None → slots_of next es ≡ set (slots_of next es) n None
  slots_absent n gone = slots_one next es es n None are are (λ q. elim (same_or_not n q) [
    | inl same ↦ rw same.1 (ap (found es) (sym same.0) ∙ gone)
    | inr other ↦ rw other.1 refl
  ])

  module _ (fs : List (Option (Entry T))) (key : ℕ) (v : T) (free : slot es key ≡ None) (others : SameBut es fs key)
      (now : slot fs key ≡ Some (record { number = next; value = v })) where
    -- an entry is added
    added_one : (e : Entry T) → slot fs key ≡ Some e → e ≡ record { number = next; value = v }
    added_one e is = let here : Some e ≡ Some (record { number = next; value = v }) = sym is ∙ now in cc

    old_one : (k : ℕ) (e : Entry T) → slot fs k ≡ Some e → k ≢ key → slot es k ≡ Some e
    old_one k e is apart = sym (others k apart) ∙ is

    pub added_numbered : AreNumbered fs (next + 1)
    added_numbered = record {
      below = λ k e is. elim (same_or_not k key) [
        | inl same ↦ let inner = added_one e (ap (slot fs) (sym same.0) ∙ is) in omega (arith, ap (λ (e : Entry T). e.number) inner)
        | inr apart ↦ omega (arith, are.below k e (old_one k e is apart.0))
      ];
      once = λ j k d e this that same. elim (same_or_not j key) [
        | inl left ↦ elim (same_or_not k key) [
          | inl right ↦ left.0 ∙ sym right.0
          | inr apart ↦
              let inner = added_one d (ap (slot fs) (sym left.0) ∙ this) in
              absurd (omega (arith, ap (λ (e : Entry T). e.number) inner, same, are.below k e (old_one k e that apart.0)))
        ]
        | inr away ↦ elim (same_or_not k key) [
          | inl right ↦
              let inner = added_one e (ap (slot fs) (sym right.0) ∙ that) in
              absurd (omega (arith, ap (λ (e : Entry T). e.number) inner, same, are.below j d (old_one j d this away.0)))
          | inr apart ↦ are.once j k d e (old_one j d this away.0) (old_one k e that apart.0) same
        ]
      ];
    }

    pub slots_added : slots_of (next + 1) fs ≡ slots_of next es ++ Some v ∷ []
    slots_added =
        let stay = added_numbered in
        let nobody : (e : Entry T) → slot es key ≡ Some e → e.number ≡ next = λ e is. let bad : Some e ≡ None = sym is ∙ free in absurd (cc) in
        let each = one_found es fs next (next + 1) key next (Some v) are stay others nobody (λ e is. ap (λ (e : Entry T). e.number) (added_one e is))
        (found_at fs (next + 1) key (record { number = next; value = v }) stay now) in
        let long : length (slots_of next es ++ Some v ∷ []) ≡ next + 1 = length-append (slots_of next es) (Some v ∷ []) ∙
        ap (λ n. n + 1) (length_slots next es) in
        same_slots (slots_of (next + 1) fs) (slots_of next es ++ Some v ∷ [])
        (length_slots (next + 1) fs ∙ sym long)
        (λ q below. slot_slots (next + 1) fs q stay ∙ (each q ∙ sym (at_end q)))
      where
        at_end : (q : ℕ) → slot (slots_of next es ++ Some v ∷ []) q ≡ cond (next == q) (Some v) (found es q)
        at_end q = slot_added (slots_of next es) (Some v) q ∙ rw (length_slots next es, slot_slots next es q are) refl

-- as many slots are live as there are entries
module _ {T : Type 0} where
  pub live_slots : (next : ℕ) (es : List (Option (Entry T))) → AreNumbered es next → live (slots_of next es) ≡ count_by is_some es
  live_slots next [] are = nothing next 0
    where
      nothing : (n a : ℕ) → count_by is_some (map (found {T = T} []) (range_with_len a n)) ≡ 0
      nothing zero a = refl
      nothing (suc n) a = omega (
        arith,
        nothing n (a + 1),
        sum_by-cons (λ (x : Option T). one (is_some x)) None
            (map (found {T = T} []) (range_with_len (a + 1) n)),
      )
  live_slots next (None ∷ es) are =
      let rest = live_slots next es (tail_numbered None es next are) in
      let same : slots_of next (None ∷ es) ≡ slots_of next es = same_slots (slots_of next (None ∷ es)) (slots_of next es) (length_slots next (None ∷ es) ∙
      sym (length_slots next es))
      (λ q _. slot_slots next (None ∷ es) q are ∙ sym (slot_slots next es q (tail_numbered None es next are))) in
      ap live same ∙ omega (arith, rest, sum_by-cons (λ (x : Option (Entry T)). one (is_some x)) None es)
  live_slots next (Some e ∷ es) are =
      let less = tail_numbered (Some e) es next are in
      let rest = live_slots next es less in
      let with_first : slots_of next (Some e ∷ es) ≡ set (slots_of next es) e.number (Some e.value) = slots_one next es (Some e ∷ es) e.number
      (Some e.value) less are (λ q. refl) in
      let nowhere : found es e.number ≡ None = found_nowhere es e.number (λ k d at same. omega (arith, are.once 0 (suc k) e d refl at (sym same))) in
      let gone : one (is_some (slot (slots_of next es) e.number)) ≡ 0 = rw (slot_slots next es e.number less, nowhere) refl in
      let within : e.number < length (slots_of next es) = omega (arith, length_slots next es, are.below 0 e refl) in
      rw with_first (omega (
        arith,
        rest,
        gone,
        sum_by-set (λ (x : Option T). one (is_some x)) (slots_of next es) e.number (Some e.value) None within,
        sum_by-cons (λ (x : Option (Entry T)). one (is_some x)) (Some e) es,
      ))
