-- Live entries, each with its number, and the slots that they stand for.
use Rattle.std.specs.Prelude.{◌≡◌, ℕ, suc, ◌≤◌, ◌<◌, List, [], ◌∷◌, length, slice_index_or}

-- the numbers rise, from the lowest on, below the next one
abbrev pub EntriesRise : {T : Type 0} → ℕ → List (ℕ × T) → ℕ → Type 0
EntriesRise low [] high = low ≤ high
EntriesRise low (e ∷ es) high = (low ≤ e.0) × EntriesRise (suc e.0) es high

-- the entry at this index has this number
pub record IsAt {T : Type 0} (es : List (ℕ × T)) (n i : ℕ) : Type 0 where
  pub within : i < length es
  pub number : (d : ℕ × T) → (slice_index_or es i d).0 ≡ n
