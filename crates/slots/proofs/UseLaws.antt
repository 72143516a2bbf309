use Rattle.std.proofs.Common.{◌≡◌, ℕ, ◌-◌, ◌<◌, true, false, Option, None, Some, refl, ltb}
use Rattle.std.proofs.lemmas.Bool.{lt-ltb, ltb-true}
use Rattle.slots.specs.declared.used.Used.{Used}
use Rattle.slots.specs.Proved.Uses.{one_less, last_value}

-- what one use less leaves at a slot, and what goes with it
pub record IsLess {T : Type 0} (used : Used T) (left : Option (Used T)) (gone : Option T) : Type 0 where
  pub slot : one_less (Some used) ≡ left
  pub lost : last_value (Some used) ≡ gone

pub more_left : {T : Type 0} (used : Used T) → 1 < used.uses → IsLess used (Some (record used { uses = used.uses - 1 })) None
more_left used more =
    let test : ltb 1 used.uses ≡ true = lt-ltb 1 used.uses more in
    record { slot = rw test refl; lost = rw test refl }

not_below : (k n : ℕ) → (k < n → ⊥) → ltb k n ≡ false
not_below k n h = elim (ltb k n) as (λ b. ltb k n ≡ b → b ≡ false) [
  | true ↦ λ e. absurd (h (ltb-true k n e))
  | false ↦ λ _. refl
] refl

pub none_left : {T : Type 0} (used : Used T) → (1 < used.uses → ⊥) → IsLess used None (Some used.value)
none_left used last =
    let test : ltb 1 used.uses ≡ false = not_below 1 used.uses last in
    record { slot = rw test refl; lost = rw test refl }
