use Rattle.std.proofs.Common.{◌≡◌, ◌≢◌, ℕ, zero, suc, ◌+◌, ◌-◌, ◌<◌, ◌≤◌, ◌∙◌, true, false, List, [], ◌∷◌, ◌++◌, Option, None, Some, length, set, refl, ap, sym, subst, arith, cond, ltb, eqb, ◌⊎◌, inl, inr}
use Rattle.std.specs.Prelude.{is_some, ◌==◌}
use Rattle.std.specs.Option.{option_map}
use Rattle.std.specs.List.{count_by}
use Rattle.std.proofs.lemmas.List.{map-set}
use Rattle.std.proofs.lemmas.List.Sums.{sum_by-cons}
use Rattle.std.proofs.Math.Seq.{map-set_same}
use Rattle.std.proofs.Math.ListN.{get_or-map, get_or-eq_default}
use Rattle.std.proofs.lemmas.Bool.{lt-ltb, ltb-true}
use Rattle.slots.specs.Slots.{slot, edited}
use Rattle.posix_model.specs.Counts.{refers}
use Rattle.machine_state.specs.Proved.Types.{Used}
use Rattle.slots.specs.UsedSlots.{value_at, values_in}
use Rattle.slots.specs.Proved.Uses.{uses_at, used_once, one_more, one_less, with_value}
use Rattle.machine_state.specs.Proved.Uses.{with_use, with_uses, without_use, lost}
use Rattle.slots.proofs.SlotLaws.{same_or_not, is_itself}
use Rattle.machine_state.proofs.SlotLaws.{one, slot_set, slot_added, set_none}

-- a count is that of a total, and what is there is used
pub record Tells {T : Type 0} (x : Option (Used T)) (total : ℕ) : Type 0 where
  pub uses : uses_at x ≡ total
  pub some : is_some x ≡ true → 0 < total

abbrev pub Counted : {T : Type 0} → List (Option (Used T)) → (ℕ → ℕ) → Type 0
Counted xs total = (n : ℕ) → Tells (slot xs n) (total n)

module _ {T : Type 0} where
  pub slot_values : (xs : List (Option (Used T))) (n : ℕ) → slot (values_in xs) n ≡ value_at (slot xs n)
  slot_values xs n = get_or-map value_at xs n None

  as_full : (x : Option (Used T)) → is_some (value_at x) ≡ is_some x
  as_full None = refl
  as_full (Some used) = refl

  pub there_values : (xs : List (Option (Used T))) (n : ℕ) → is_some (slot (values_in xs) n) ≡ is_some (slot xs n)
  there_values xs n = ap is_some (slot_values xs n) ∙ as_full (slot xs n)

  -- an edit takes nothing away
  pub there_edited : (xs : List (Option (Used T))) (k : ℕ) (f : Used T → Used T) (n : ℕ) → is_some (slot xs n) ≡ true → is_some (slot (edited k f xs) n) ≡ true
  there_edited xs k f n there = by_slot (slot xs k) refl
    where
      by_slot : (x : Option (Used T)) → slot xs k ≡ x → is_some (slot (edited k f xs) n) ≡ true
      by_slot None is = rw (is, set_none xs k is) there
      by_slot (Some x) is = rw (is, slot_set xs k x (Some (f x)) n is) (elim (eqb k n) as (λ b. is_some (cond b (Some (f x)) (slot xs n)) ≡ true) [
        | true ↦
            refl
        | false ↦ there
      ])

  -- what is used is there
  pub positive : (x : Option (Used T)) → 0 < uses_at x → is_some x ≡ true
  positive None h = absurd (omega (arith, h))
  positive (Some used) h = refl

  -- what is there has a value
  pub full : (x : Option (Used T)) → is_some x ≡ true → (used : Used T) × (x ≡ Some used)
  full None h = cc
  full (Some used) h = (used, refl)

  pub counted_as : (xs : List (Option (Used T))) (old new : ℕ → ℕ) → Counted xs old → ((n : ℕ) → new n ≡ old n) → Counted xs new
  counted_as xs old new counted same n = rw (same n) (counted n)

  -- one slot has another count
  counted_set : (xs : List (Option (Used T))) (old new : ℕ → ℕ) (n : ℕ) (x : Used T) (y : Option (Used T)) → Counted xs old → slot xs n ≡ Some x →
      Tells y (new n) → ((m : ℕ) → n ≢ m → new m ≡ old m) → Counted (set xs n y) new
  counted_set xs old new n x y counted is here others m = elim (same_or_not n m) [
    | inl same ↦ let P : ℕ → Type 0 = λ k. Tells y (new k) in rw (slot_set xs n x y m is, same.1) (subst P same.0 here)
    | inr other ↦ rw (slot_set xs n x y m is, other.1, others m other.0) (counted m)
  ]

  -- something refers to what is there
  pub counted_more : (xs : List (Option (Used T))) (old new : ℕ → ℕ) (entry : Option ℕ) → Counted xs old →
      ((n : ℕ) → entry ≡ Some n → is_some (slot xs n) ≡ true) →
      ((n : ℕ) → new n ≡ old n + one (refers n entry)) → Counted (with_use entry xs) new
  counted_more xs old new None counted there more = counted_as xs old new counted (λ n. omega (arith, more n))
  counted_more xs old new (Some k) counted there more =
      let x = full (slot xs k) (there k refl) in
      let once : one (k == k) ≡ 1 = ap one (is_itself k) in
      let was : x.0.uses ≡ old k = ap uses_at (sym x.1) ∙ (counted k).uses in
      let here : Tells (Some (one_more x.0)) (new k) = record { uses = omega (arith, was, once, more k); some = λ _. omega (arith, once, more k) } in
      rw x.1 (counted_set xs old new k x.0 (Some (one_more x.0)) counted x.1 here (λ m apart. elim (same_or_not k m) [
        | inl same ↦ absurd (apart same.0)
        | inr other ↦ let none : one (k == m) ≡ 0 = ap one other.1 in omega (arith, none, more m)
      ]))

  pub values_more : (xs : List (Option (Used T))) (entry : Option ℕ) → values_in (with_use entry xs) ≡ values_in xs
  values_more xs None = refl
  values_more xs (Some k) = map-set_same value_at xs k (option_map one_more (slot xs k)) None (alike (slot xs k))
    where
      alike : (x : Option (Used T)) → value_at (option_map one_more x) ≡ value_at x
      alike None = refl
      alike (Some used) = refl

  -- something refers to each of these
  pub there_use : (xs : List (Option (Used T))) (entry : Option ℕ) (n : ℕ) → is_some (slot xs n) ≡ true → is_some (slot (with_use entry xs) n) ≡ true
  there_use xs None n there = there
  there_use xs (Some k) n there = there_edited xs k one_more n there

  pub there_uses : (es : List (Option ℕ)) (xs : List (Option (Used T))) (n : ℕ) → is_some (slot xs n) ≡ true → is_some (slot (with_uses es xs) n) ≡ true
  there_uses [] xs n there = there
  there_uses (e ∷ es) xs n there = there_uses es (with_use e xs) n (there_use xs e n there)

  pub most_use : (xs : List (Option (Used T))) (entry : Option ℕ) (n : ℕ) → uses_at (slot (with_use entry xs) n) ≤ uses_at (slot xs n) + 1
  most_use xs None n = omega arith
  most_use xs (Some k) n = by_slot (slot xs k) refl
    where
      by_slot : (x : Option (Used T)) → slot xs k ≡ x → uses_at (slot (edited k one_more xs) n) ≤ uses_at (slot xs n) + 1
      by_slot None is = rw (is, set_none xs k is) (omega arith)
      by_slot (Some used) is = elim (same_or_not k n) [
        | inl same ↦
            let here : uses_at (slot xs n) ≡ used.uses = let P : ℕ → Type 0 = λ m. uses_at (slot xs m) ≡ used.uses in subst P same.0 (ap uses_at is) in
            rw (is, slot_set xs k used (Some (one_more used)) n is, same.1) (omega (arith, here))
        | inr other ↦ rw (is, slot_set xs k used (Some (one_more used)) n is, other.1) (omega arith)
      ]

  pub most_uses : (es : List (Option ℕ)) (xs : List (Option (Used T))) (n : ℕ) → uses_at (slot (with_uses es xs) n) ≤ uses_at (slot xs n) + length es
  most_uses [] xs n = omega arith
  most_uses (e ∷ es) xs n = omega (arith, most_uses es (with_use e xs) n, most_use xs e n)

  pub uses_push : (es : List (Option ℕ)) (e : Option ℕ) (xs : List (Option (Used T))) → with_uses (es ++ e ∷ []) xs ≡ with_use e (with_uses es xs)
  uses_push [] e xs = refl
  uses_push (x ∷ es) e xs = uses_push es e (with_use x xs)

  pub counted_uses : (es : List (Option ℕ)) (xs : List (Option (Used T))) (old new : ℕ → ℕ) → Counted xs old →
      ((k n : ℕ) → slot es k ≡ Some n → is_some (slot xs n) ≡ true) →
      ((n : ℕ) → new n ≡ old n + count_by (refers n) es) → Counted (with_uses es xs) new
  counted_uses [] xs old new counted there more = counted_as xs old new counted (λ n. omega (arith, more n))
  counted_uses (e ∷ es) xs old new counted there more =
      counted_uses es (with_use e xs) (λ n. old n + one (refers n e)) new (counted_more xs old (λ n. old n + one (refers n e)) e counted (λ n is. there 0 n is)
      (λ n. refl))
      (λ k n is. there_use xs e n (there (suc k) n is)) (λ n. omega (arith, more n, sum_by-cons (λ x. one (refers n x)) e es))

  pub values_uses : (es : List (Option ℕ)) (xs : List (Option (Used T))) → values_in (with_uses es xs) ≡ values_in xs
  values_uses [] xs = refl
  values_uses (e ∷ es) xs = values_uses es (with_use e xs) ∙ values_more xs e

  -- a value is added, with one use
  pub counted_added : (xs : List (Option (Used T))) (old new : ℕ → ℕ) (value : T) → Counted xs old → ((n : ℕ) → new n ≡ old n + one (length xs == n)) →
      Counted (xs ++ Some (used_once value) ∷ []) new
  counted_added xs old new value counted more n = elim (same_or_not (length xs) n) [
    | inl same ↦
        let once : one (length xs == n) ≡ 1 = ap one same.1 in
        let none : uses_at (slot xs n) ≡ 0 = ap uses_at (get_or-eq_default xs None (omega (arith, same.0))) in
        rw (slot_added xs (Some (used_once value)) n, same.1)
        (record { uses = omega (arith, once, none, (counted n).uses, more n); some = λ _. omega (arith, once, more n) })
    | inr other ↦
        let none : one (length xs == n) ≡ 0 = ap one other.1 in
        let as_was : new n ≡ old n = omega (arith, none, more n) in
        rw (slot_added xs (Some (used_once value)) n, other.1, as_was) (counted n)
  ]

  -- a value is edited
  pub counted_edited : (xs : List (Option (Used T))) (total : ℕ → ℕ) (k : ℕ) (f : T → T) → Counted xs total → Counted (edited k (with_value f) xs) total
  counted_edited xs total k f counted = by_slot (slot xs k) refl
    where
      by_slot : (x : Option (Used T)) → slot xs k ≡ x → Counted (edited k (with_value f) xs) total
      by_slot None is = rw (is, set_none xs k is) counted
      by_slot (Some used) is =
          let was : used.uses ≡ total k = ap uses_at (sym is) ∙ (counted k).uses in
          let some : 0 < total k = (counted k).some (ap is_some is) in
          rw is (counted_set xs total total k used (Some (with_value f used)) counted is (record { uses = was; some = λ _. some }) (λ m _. refl))

  pub values_edited : (xs : List (Option (Used T))) (k : ℕ) (f : T → T) → values_in (edited k (with_value f) xs) ≡ edited k f (values_in xs)
  values_edited xs k f = map-set value_at xs k (option_map (with_value f) (slot xs k)) ∙
      ap (λ y. set (values_in xs) k y) (alike (slot xs k) ∙ ap (option_map f) (sym (slot_values xs k)))
    where
      alike : (x : Option (Used T)) → value_at (option_map (with_value f) x) ≡ option_map f (value_at x)
      alike None = refl
      alike (Some used) = refl

  -- what is referred to once less is used still
  pub record StaysUsed (xs : List (Option (Used T))) (new : ℕ → ℕ) (entry : Option ℕ) : Type 0 where
    pub used : (k : ℕ) → entry ≡ Some k → 0 < new k
    pub values : values_in (without_use entry xs) ≡ values_in xs
    pub lost : lost entry xs ≡ None

  -- or its last use goes
  pub record Goes (xs : List (Option (Used T))) (new : ℕ → ℕ) (entry : Option ℕ) : Type 0 where
    pub number : ℕ
    pub value : T
    pub entry_is : entry ≡ Some number
    pub is : slot (values_in xs) number ≡ Some value
    pub none : new number ≡ 0
    pub values : values_in (without_use entry xs) ≡ set (values_in xs) number None
    pub lost : lost entry xs ≡ Some value

  pub record LosesUse (xs : List (Option (Used T))) (new : ℕ → ℕ) (entry : Option ℕ) : Type 0 where
    pub counted : Counted (without_use entry xs) new
    pub either : StaysUsed xs new entry ⊎ Goes xs new entry

  pub loses_use : (xs : List (Option (Used T))) (old new : ℕ → ℕ) (entry : Option ℕ) → Counted xs old → ((n : ℕ) → new n + one (refers n entry) ≡ old n) →
      LosesUse xs new entry
  loses_use xs old new None counted less = record {
    counted = counted_as xs old new counted (λ n. omega (arith, less n));
    either = inl (record { used = λ k is. cc; values = refl; lost = refl });
  }
  loses_use xs old new (Some k) counted less =
      let once : one (k == k) ≡ 1 = ap one (is_itself k) in
      let x = full (slot xs k) (positive (slot xs k) (omega (arith, once, less k, (counted k).uses))) in
      at x.0 x.1
    where
      others : (m : ℕ) → k ≢ m → new m ≡ old m
      others m apart = elim (same_or_not k m) [
        | inl same ↦ absurd (apart same.0)
        | inr other ↦ let none : one (k == m) ≡ 0 = ap one other.1 in omega (arith, none, less m)
      ]

      same_some : (a b : ℕ) → Some a ≡ Some b → a ≡ b
      same_some a b e = cc

      at : (used : Used T) → slot xs k ≡ Some used → LosesUse xs new (Some k)
      at used is =
          let once : one (k == k) ≡ 1 = ap one (is_itself k) in
          let was : used.uses ≡ new k + 1 = omega (arith, ap uses_at is, (counted k).uses, less k, once) in
          elim (ltb 1 used.uses) as (λ b. ltb 1 used.uses ≡ b → LosesUse xs new (Some k)) [
            | true ↦ λ e.
                let many : 1 < used.uses = ltb-true 1 used.uses e in
                let slot_is : one_less (slot xs k) ≡ Some (record used { uses = used.uses - 1 }) = ap one_less is ∙ rw e refl in
                record {
                  counted = rw slot_is (counted_set xs old new k used (Some (record used { uses = used.uses - 1 })) counted is
                      (record { uses = omega (arith, was); some = λ _. omega (arith, was, many) }) others);
                  either = inl (record {
                    used = λ n same. let P : ℕ → Type 0 = λ n. 0 < new n in subst P (same_some k n same) (omega (arith, was, many));
                    values = rw slot_is (map-set_same value_at xs k (Some (record used { uses = used.uses - 1 })) None (ap value_at (sym is)));
                    lost = rw (is, e) refl;
                  });
                }
            | false ↦ λ e.
                let few : used.uses ≡ 1 = single used.uses (new k) was e in
                let slot_is : one_less (slot xs k) ≡ None = ap one_less is ∙ rw e refl in
                let zero_left : new k ≡ 0 = omega (arith, was, few) in
                record {
                  counted = rw slot_is (counted_set xs old new k used None counted is (record { uses = sym zero_left; some = λ h. cc }) others);
                  either = inr (record {
                    number = k;
                    value = used.value;
                    entry_is = refl;
                    is = slot_values xs k ∙ ap value_at is;
                    none = zero_left;
                    values = rw slot_is (map-set value_at xs k None);
                    lost = rw (is, e) refl;
                  });
                }
          ] refl
        where
          single : (uses left : ℕ) → uses ≡ left + 1 → ltb 1 uses ≡ false → uses ≡ 1
          single uses zero was e = omega (arith, was)
          single uses (suc left) was e = let bad : true ≡ false = sym (lt-ltb 1 uses (omega (arith, was))) ∙ e in cc

pub values_added : {T : Type 0} (xs : List (Option (Used T))) (value : T) → values_in (xs ++ Some (used_once value) ∷ []) ≡ values_in xs ++ Some value ∷ []
values_added [] value = refl
values_added (x ∷ xs) value = ap (λ ys. value_at x ∷ ys) (values_added xs value)

pub length_values : {T : Type 0} (xs : List (Option (Used T))) → length (values_in xs) ≡ length xs
length_values [] = refl
length_values (x ∷ xs) = ap suc (length_values xs)
