-- Numbers: none is used again, and what stays at one stays what it is.
use Rattle.std.specs.Prelude.{◌≡◌, ℕ, ◌≤◌, ◌<◌, true, List, Option, None, Some, length, is_some}
use Rattle.slots.specs.Slots.{slot}
use Rattle.posix_model.specs.Proved.Whole.{is_fifo}
use Rattle.posix_model.specs.Types.{World}

-- no number of a list is lost, and one whose slot is gone is not used again (own)
pub record Rises {T : Type 0} (before after : List (Option T)) : Type 0 where
  pub longer : length before ≤ length after
  pub gone : (number : ℕ) → number < length before → slot before number ≡ None → slot after number ≡ None

-- what stands at a number before and after is the same in this respect (own)
abbrev pub StaysSame : {T K : Type 0} → (T → K) → List (Option T) → List (Option T) → Type 0
StaysSame {T} respect before after = (number : ℕ) (x y : T) → slot before number ≡ Some x → slot after number ≡ Some y → respect y ≡ respect x

-- no number is used again, and what stays at one stays what it is: a file of its kind, a description of its target and mode (own)
pub record NumbersRise (w v : World) : Type 0 where
  pub files : Rises w.files v.files
  pub pipes : Rises w.pipes v.pipes
  pub descriptions : Rises w.descriptions v.descriptions
  pub processes : Rises w.processes v.processes
  pub kinds : StaysSame (λ file. is_fifo (Some file)) w.files v.files
  pub targets : StaysSame (λ description. description.target) w.descriptions v.descriptions
  pub modes : StaysSame (λ description. description.mode) w.descriptions v.descriptions

-- the least number of a free slot is within the slots, its slot is free, and every slot before it is full
pub record IsLowest (slots : List (Option ℕ)) (n : ℕ) : Type 0 where
  pub within : n < length slots
  pub free : slot slots n ≡ None
  pub before : (m : ℕ) → m < n → is_some (slot slots m) ≡ true
