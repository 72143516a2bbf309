-- What stands in lists whose elements are found by their keys.
use Rattle.std.specs.Prelude.{◌≡◌, ℕ, List, Some}
use Rattle.std.specs.List.{slice_get}

-- what stands at the place has this key
pub record StandsAt {K T : Type 0} (key_of : T → K) (items : List T) (key : K) (place : ℕ) : Type 0 where
  pub item : T
  pub stands : slice_get items place ≡ Some item
  pub is : key_of item ≡ key
