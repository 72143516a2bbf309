-- Numbers that are stored with what they count: the names of files, and the ends of pipes.
use Rattle.std.proofs.Common.{◌≡◌, ◌≢◌, ℕ, ◌+◌, ◌-◌, ◌∙◌, Bool, false, true, ◌&&◌, List, [], ◌∷◌, ◌++◌, Option, None, Some, length, set, refl, ap, sym, arith, eqb, ◌⊎◌, inl, inr}
use Rattle.std.specs.Prelude.{is_some}
use Rattle.std.proofs.Math.ListN.{get_or-eq_default}
use Rattle.slots.specs.Slots.{slot, edited}
use Rattle.slots.specs.UsedSlots.{values_in}
use Rattle.machine_state.specs.Proved.Types.{Used}
use Rattle.machine_state.specs.Proved.Uses.{without_use}
use Rattle.slots.proofs.SlotLaws.{same_or_not, is_itself}
use Rattle.machine_state.proofs.SlotLaws.{one, slot_set, slot_added, set_none}
use Rattle.machine_state.proofs.UseLaws.{StaysUsed, Goes}

-- each stored number is that of a total
abbrev pub Tallies : {T : Type 0} → (Option T → ℕ) → List (Option T) → (ℕ → ℕ) → Type 0
Tallies count xs total = (n : ℕ) → count (slot xs n) ≡ total n

module _ {T : Type 0} (count : Option T → ℕ) (none : count None ≡ 0) where
  -- one slot has another number
  tallies_set : (xs : List (Option T)) (old new : ℕ → ℕ) (k : ℕ) (x : T) (y : Option T) → Tallies count xs old → slot xs k ≡ Some x → count y ≡ new k →
      ((n : ℕ) → k ≢ n → new n ≡ old n) → Tallies count (set xs k y) new
  tallies_set xs old new k x y tallies is here others n = elim (same_or_not k n) [
    | inl same ↦ rw (slot_set xs k x y n is, same.1) (here ∙ ap new same.0)
    | inr other ↦ rw (slot_set xs k x y n is, other.1, others n other.0) (tallies n)
  ]

  others_more : (old new : ℕ → ℕ) (k : ℕ) (b : Bool) → ((n : ℕ) → new n ≡ old n + one (eqb k n && b)) → (n : ℕ) → k ≢ n → new n ≡ old n
  others_more old new k b more n apart = elim (same_or_not k n) [
    | inl same ↦ absurd (apart same.0)
    | inr other ↦ let nothing : one (eqb k n && b) ≡ 0 = ap (λ c. one (c && b)) other.1 in omega (arith, nothing, more n)
  ]

  others_less : (old new : ℕ → ℕ) (k : ℕ) (b : Bool) → ((n : ℕ) → new n + one (eqb k n && b) ≡ old n) → (n : ℕ) → k ≢ n → new n ≡ old n
  others_less old new k b less n apart = elim (same_or_not k n) [
    | inl same ↦ absurd (apart same.0)
    | inr other ↦ let nothing : one (eqb k n && b) ≡ 0 = ap (λ c. one (c && b)) other.1 in omega (arith, nothing, less n)
  ]

  -- a value counts once more, where a test passes
  pub tallies_more : (xs : List (Option T)) (old new : ℕ → ℕ) (k : ℕ) (f : T → T) (b : Bool) → Tallies count xs old → is_some (slot xs k) ≡ true →
      ((x : T) → count (Some (f x)) ≡ count (Some x) + one b) → ((n : ℕ) → new n ≡ old n + one (eqb k n && b)) → Tallies count (edited k f xs) new
  tallies_more xs old new k f b tallies there counts more = by_slot (slot xs k) refl
    where
      by_slot : (x : Option T) → slot xs k ≡ x → Tallies count (edited k f xs) new
      by_slot None is = let bad : false ≡ true = sym (ap is_some is) ∙ there in cc
      by_slot (Some x) is =
          let here : one (eqb k k && b) ≡ one b = ap (λ c. one (c && b)) (is_itself k) in
          let was : count (Some x) ≡ old k = ap count (sym is) ∙ tallies k in
          rw is (tallies_set xs old new k x (Some (f x)) tallies is (omega (arith, was, here, counts x, more k)) (others_more old new k b more))

  -- and once less
  pub tallies_fewer : (xs : List (Option T)) (old new : ℕ → ℕ) (k : ℕ) (f : T → T) (b : Bool) → Tallies count xs old →
      ((x : T) → count (Some (f x)) ≡ count (Some x) - one b) → ((n : ℕ) → new n + one (eqb k n && b) ≡ old n) → Tallies count (edited k f xs) new
  tallies_fewer xs old new k f b tallies counts less = by_slot (slot xs k) refl
    where
      here : one (eqb k k && b) ≡ one b
      here = ap (λ c. one (c && b)) (is_itself k)

      by_slot : (x : Option T) → slot xs k ≡ x → Tallies count (edited k f xs) new
      by_slot None is =
          let nothing : old k ≡ 0 = sym (ap count (sym is) ∙ tallies k) ∙ none in
          rw (is, set_none xs k is) (λ n. tallies n ∙ sym (elim (same_or_not k n) [
            | inl same ↦ let before : old n ≡ 0 = ap old (sym same.0) ∙ nothing in omega (arith, before, less n)
            | inr other ↦ others_less old new k b less n other.0
          ]))
      by_slot (Some x) is =
          let was : count (Some x) ≡ old k = ap count (sym is) ∙ tallies k in
          rw is (tallies_set xs old new k x (Some (f x)) tallies is (omega (arith, was, here, counts x, less k)) (others_less old new k b less))

  -- an edit that leaves the number alone
  pub tallies_kept : (xs : List (Option T)) (total : ℕ → ℕ) (k : ℕ) (f : T → T) → ((x : T) → count (Some (f x)) ≡ count (Some x)) → Tallies count xs total →
      Tallies count (edited k f xs) total
  tallies_kept xs total k f same tallies = by_slot (slot xs k) refl
    where
      by_slot : (x : Option T) → slot xs k ≡ x → Tallies count (edited k f xs) total
      by_slot None is = rw (is, set_none xs k is) tallies
      by_slot (Some x) is = rw is (tallies_set xs total total k x (Some (f x)) tallies is (same x ∙ (ap count (sym is) ∙ tallies k)) (λ m _. refl))

  -- a value is added
  pub tallies_added : (xs : List (Option T)) (old new : ℕ → ℕ) (x : T) (b : Bool) → Tallies count xs old → count (Some x) ≡ one b →
      ((n : ℕ) → new n ≡ old n + one (eqb (length xs) n && b)) →
      Tallies count (xs ++ Some x ∷ []) new
  tallies_added xs old new x b tallies counts more n = elim (same_or_not (length xs) n) [
    | inl same ↦
        let here : one (eqb (length xs) n && b) ≡ one b = ap (λ c. one (c && b)) same.1 in
        let nothing : count (slot xs n) ≡ 0 = ap count (get_or-eq_default xs None (omega (arith, same.0))) ∙ none in
        rw (slot_added xs (Some x) n, same.1) (omega (arith, counts, here, nothing, tallies n, more n))
    | inr other ↦ rw (slot_added xs (Some x) n, other.1, others_more old new (length xs) b more n other.0) (tallies n)
  ]

  -- what goes with its last use has no number left
  pub tallies_less : (xs : List (Option (Used T))) (uses total : ℕ → ℕ) (entry : Option ℕ) → StaysUsed xs uses entry ⊎ Goes xs uses entry →
      ((n : ℕ) → uses n ≡ 0 → total n ≡ 0) →
      Tallies count (values_in xs) total → Tallies count (values_in (without_use entry xs)) total
  tallies_less xs uses total entry (inl stays) within tallies = rw stays.values tallies
  tallies_less xs uses total entry (inr goes) within tallies =
      rw goes.values (tallies_set (values_in xs) total total goes.number goes.value None tallies goes.is (none ∙ sym (within goes.number goes.none))
      (λ m _. refl))
