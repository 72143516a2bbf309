use Rattle.std.proofs.Common.{◌≡◌, ℕ, zero, suc, ◌<◌, ◌∙◌, Bool, true, cond, List, [], ◌∷◌, ◌++◌, Option, None, Some, length, length-append, set, refl, ap, sym, subst, arith, inl, inr, eqb, eq-eqb}
use Rattle.std.specs.Prelude.{is_some}
use Rattle.std.proofs.lemmas.Bool.{cases_order}
use Rattle.std.proofs.lemmas.List.{get_or-set_same, get_or-set_other, set-get_or}
use Rattle.std.proofs.Math.ListN.{get_or-append, get_or-eq_default}
use Rattle.std.proofs.Math.Seq.{get_or-append_seam}
use Rattle.slots.specs.Slots.{slot, edited}
use Rattle.slots.proofs.SlotLaws.{same_or_not, other_number}
use Rattle.std.specs.Option.{option_map}
use Rattle.posix_model.specs.Proved.Whole.{EachThere}

-- one where a test passes, else nothing
abbrev pub one : Bool → ℕ
one b = cond b 1 0

module _ {T : Type 0} where
  -- what is there is below the end
  pub there_below : (xs : List (Option T)) (n : ℕ) → is_some (slot xs n) ≡ true → n < length xs
  there_below [] n h = cc
  there_below (x ∷ xs) zero h = omega arith
  there_below (x ∷ xs) (suc n) h = let below = there_below xs n h in omega arith

  -- a live slot that is written has what was written, and the others what they had
  pub slot_set : (xs : List (Option T)) (n : ℕ) (x : T) (y : Option T) (m : ℕ) → slot xs n ≡ Some x → slot (set xs n y) m ≡ cond (eqb n m) y (slot xs m)
  slot_set xs n x y m is = elim (same_or_not n m) [
    | inl same ↦ rw (same.1, same.0) (get_or-set_same xs m y None (let P : ℕ → Type 0 = λ k. k < length xs in
        subst P same.0 (there_below xs n (ap is_some is))))
    | inr other ↦ rw other.1 (get_or-set_other xs n m y None (λ e. other.0 (sym e)))
  ]

  -- a slot without anything is emptied
  pub set_none : (xs : List (Option T)) (n : ℕ) → slot xs n ≡ None → set xs n None ≡ xs
  set_none xs n is = ap (λ y. set xs n y) (sym is) ∙ set-get_or xs n None

  -- the slots are those that were there, and the new one
  pub slot_added : (xs : List (Option T)) (y : Option T) (n : ℕ) → slot (xs ++ y ∷ []) n ≡ cond (eqb (length xs) n) y (slot xs n)
  slot_added xs y n = elim (cases_order (length xs) n) [
    | inl same ↦ rw (eq-eqb (length xs) n same) (rw same at (get_or-append_seam xs y [] None))
    | inr apart ↦ elim apart [
      | inl above ↦ rw (other_number n (length xs) (λ e. omega (arith, e, above)))
          (get_or-eq_default (xs ++ y ∷ []) None (omega (arith, above, length-append xs (y ∷ []))) ∙ sym (get_or-eq_default xs None (omega (arith, above))))
      | inr below ↦ rw (other_number n (length xs) (λ e. omega (arith, e, below))) (get_or-append xs (y ∷ []) None n below)
    ]
  ]

-- what each has, each has also where one is written, added or edited
module _ {T : Type 0} (Has : T → Type 0) where
  pub each_set : (xs : List (Option T)) (k : ℕ) (y : Option T) → EachThere Has xs → ((x : T) → y ≡ Some x → Has x) → EachThere Has (set xs k y)
  each_set [] k y each new n x h = each n x h
  each_set (z ∷ xs) zero y each new zero x h = new x h
  each_set (z ∷ xs) zero y each new (suc n) x h = each (suc n) x h
  each_set (z ∷ xs) (suc k) y each new zero x h = each zero x h
  each_set (z ∷ xs) (suc k) y each new (suc n) x h = each_set xs k y (λ m. each (suc m)) new n x h

  pub each_added : (xs : List (Option T)) (y : T) → EachThere Has xs → Has y → EachThere Has (xs ++ Some y ∷ [])
  each_added [] y each new zero x h = let same : y ≡ x = cc in subst Has same new
  each_added [] y each new (suc n) x h = cc
  each_added (z ∷ xs) y each new zero x h = each zero x h
  each_added (z ∷ xs) y each new (suc n) x h = each_added xs y (λ k. each (suc k)) new n x h

  pub each_edited : (xs : List (Option T)) (k : ℕ) (f : T → T) → EachThere Has xs → ((x : T) → Has x → Has (f x)) → EachThere Has (edited k f xs)
  each_edited xs k f each stays = each_set xs k (option_map f (slot xs k)) each (λ x h. by_slot (slot xs k) (each k) x h)
    where
      by_slot : (y : Option T) → ((x : T) → y ≡ Some x → Has x) → (x : T) → option_map f y ≡ Some x → Has x
      by_slot None before x h = cc
      by_slot (Some z) before x h = let same : f z ≡ x = cc in subst Has same (stays z (before z refl))
