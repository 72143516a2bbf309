-- What a run that may have so many records keeps free, so that its processes and the run itself can be ended (own).
use Rattle.std.specs.Prelude.{◌≡◌, ℕ, ◌+◌, Bool, true, nat_le, List, [], ◌∷◌, Option, None, Some, if◌then◌else◌}
use Rattle.slots.specs.Slots.{live}
use Rattle.posix_model.specs.Types.{Record, Bounds, World}
use Rattle.posix_model.specs.History.{empty_world, after, legal}

-- how many records the exits and the closing of a run will take
abbrev pub exits_left : World → ℕ
exits_left w = if w.closed then live w.processes else live w.processes + 1

-- whether a run that may have so many records has enough of them left for the exits and the closing, after a history of this length
abbrev pub has_reserve : ℕ → World → ℕ → Bool
has_reserve most w len = nat_le (len + exits_left w) most

-- the same of a run of which it is told, or not, how many records it may have
abbrev pub can_end : Option ℕ → World → ℕ → Bool
can_end None w len = true
can_end (Some most) w len = has_reserve most w len

-- after each of these records, which come after so many others in this world, the run can be ended
abbrev pub CanEndFrom : Bounds → Option ℕ → World → ℕ → List Record → Type 0
CanEndFrom bounds most w len [] = Unit {0}
CanEndFrom bounds most w len (r ∷ rs) = (can_end most (after bounds w r) (len + 1) ≡ true) × CanEndFrom bounds most (after bounds w r) (len + 1) rs

-- after each record of a history the run can be ended
abbrev pub CanEnd : Bounds → Option ℕ → List Record → Type 0
CanEnd bounds most h = CanEndFrom bounds most empty_world 0 h

-- a history is one of a run that may have so many records, if that is told: it is what the one-thread model gives, and at no place too long
pub record IsLegalRun (bounds : Bounds) (most : Option ℕ) (h : List Record) : Type 0 where
  pub is_legal : legal bounds h
  pub ends : CanEnd bounds most h
