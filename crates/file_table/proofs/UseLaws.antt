-- Values with their uses, at a number.
use Rattle.std.proofs.Common.{◌≡◌, ℕ, zero, suc, ◌∙◌, List, [], ◌∷◌, Option, None, Some, set, refl, ap, sym}
use Rattle.std.specs.Option.{option_map}
use Rattle.slots.specs.Slots.{slot, edited}
use Rattle.slots.specs.declared.used.Used.{Used}

module _ {T : Type 0} where
  -- two edits of a value are one
  pub edited_twice : (xs : List (Option (Used T))) (n : ℕ) (f g : Used T → Used T) → edited n f (edited n g xs) ≡ edited n (λ x. f (g x)) xs
  edited_twice [] n f g = refl
  edited_twice (None ∷ xs) zero f g = refl
  edited_twice (Some x ∷ xs) zero f g = refl
  edited_twice (x ∷ xs) (suc n) f g = ap (λ ys. x ∷ ys) (edited_twice xs n f g)

  -- a value that is written is edited
  pub edited_as : (xs : List (Option (Used T))) (n : ℕ) (f : Used T → Used T) (x y : Used T) → slot xs n ≡ Some x → y ≡ f x → set xs n (Some y) ≡ edited n f xs
  edited_as xs n f x y is same = ap (λ y. set xs n y) (ap Some same ∙ ap (option_map f) (sym is))
