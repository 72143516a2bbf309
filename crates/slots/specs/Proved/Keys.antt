-- Entries under keys, each with its number, and the slots that they stand for.
use Rattle.std.specs.Prelude.{◌≡◌, ℕ, ◌<◌, List, Option, None, Some, slice_index_or}
use Rattle.slots.specs.declared.keyed.Entry.{Entry}

-- each number is below the next one, and stands under one key
pub record AreNumbered {T : Type 0} (es : List (Option (Entry T))) (next : ℕ) : Type 0 where
  pub below : (key : ℕ) (e : Entry T) → slice_index_or es key None ≡ Some e → e.number < next
  pub once : (j k : ℕ) (d e : Entry T) → slice_index_or es j None ≡ Some d → slice_index_or es k None ≡ Some e → d.number ≡ e.number → j ≡ k

-- the entry under this key has this number
pub record HasNumber {T : Type 0} (es : List (Option (Entry T))) (key n : ℕ) : Type 0 where
  pub entry : Entry T
  pub there : slice_index_or es key None ≡ Some entry
  pub number : entry.number ≡ n
