use Rattle.std.proofs.Common.{◌≡◌, ◌≢◌, ℕ, ◌≤◌, ◌<◌, ◌∙◌, Bool, true, false, cond, List, [], ◌∷◌, ◌++◌, Option, None, length, length-append, sym, arith, ◌⊎◌, inl, inr, eqb, eq-eqb, refl}
use Rattle.std.proofs.lemmas.Bool.{cases_order}
use Rattle.std.proofs.lemmas.Bool.Decides.{eqb_tells}
use Rattle.std.proofs.Math.ListN.{get_or-append, get_or-eq_default}
use Rattle.std.proofs.Math.Seq.{get_or-append_seam}
use Rattle.slots.specs.Slots.{slot}

-- one where a test passes, else nothing
abbrev pub one : Bool → ℕ
one b = cond b 1 0

-- equal or not
pub same_or_not : (m n : ℕ) → ((m ≡ n) × (eqb m n ≡ true)) ⊎ ((m ≢ n) × (eqb m n ≡ false))
same_or_not m n = elim (eqb_tells m n) [
  | inl same ↦ inl (same.1, same.0)
  | inr other ↦ inr (other.1, other.0)
]

pub other_number : (m n : ℕ) → m ≢ n → eqb n m ≡ false
other_number m n apart = elim (same_or_not n m) [
  | inl same ↦ absurd (apart (sym same.0))
  | inr other ↦ other.1
]

pub is_itself : (n : ℕ) → eqb n n ≡ true
is_itself n = eq-eqb n n refl

-- one number is below another, or it is not
pub order : (k i : ℕ) → (k < i) ⊎ (i ≤ k)
order k i = elim (cases_order k i) [
  | inl same ↦ inr (omega (arith, same))
  | inr apart ↦ elim apart [ inl below ↦ inl below | inr above ↦ inr (omega (arith, above)) ]
]

module _ {T : Type 0} where
  pub slot_past : (xs : List (Option T)) (n : ℕ) → length xs ≤ n → slot xs n ≡ None
  slot_past xs n past = get_or-eq_default xs None past

  -- the slots are those that were there, and the new one
  pub slot_added : (xs : List (Option T)) (y : Option T) (n : ℕ) → slot (xs ++ y ∷ []) n ≡ cond (eqb (length xs) n) y (slot xs n)
  slot_added xs y n = elim (same_or_not (length xs) n) [
    | inl same ↦ rw same.1 (rw same.0 at (get_or-append_seam xs y [] None))
    | inr other ↦ rw other.1 (elim (order n (length xs)) [
      | inl below ↦ get_or-append xs (y ∷ []) None n below
      | inr above ↦ slot_past (xs ++ y ∷ []) n (omega (arith, above, other.0, length-append xs (y ∷ []))) ∙ sym (slot_past xs n above)
    ])
  ]
