-- Where names stand among the entries.
use Rattle.std.specs.Prelude.{◌≡◌, ℕ, ◌<◌, T, List, Option, None, Some, length, slice_index_or}
use Rattle.std.specs.Ordering.{nat_cmp, is_gt}
use Rattle.std.specs.Cmp.Lexicographic.{slice_cmp}
use Rattle.std.specs.List.{prefix_len}
use Rattle.std.specs.FinMap.{is_sorted}
use Rattle.std.specs.declared.cmp.Ordering.TheVariants.{Equal}
use Rattle.call_types.specs.Names.{Entries, file_of, without_name}

-- how many of the entries stand before the name
abbrev pub rank_of : List ℕ → Entries → ℕ
rank_of name entries = prefix_len (λ e. is_gt (slice_cmp nat_cmp name e.0)) entries

-- each name stands before those after it, so none is there twice
abbrev pub IsNamed : Entries → Type 0
IsNamed entries = T (is_sorted (slice_cmp nat_cmp) entries)

-- the entry at this place has the name
pub record HasName (name : List ℕ) (entries : Entries) (place : ℕ) : Type 0 where
  pub within : place < length entries
  pub has : (d : List ℕ × ℕ) → slice_cmp nat_cmp name (slice_index_or entries place d).0 ≡ Equal

-- the place of a name, or none where the name is not there
abbrev pub IsPlaceOf : List ℕ → Entries → Option ℕ → Type 0
IsPlaceOf name entries (Some place) = HasName name entries place
IsPlaceOf name entries None = (file_of name entries ≡ None) × (without_name name entries ≡ entries)
