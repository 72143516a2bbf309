-- The names of files: a finite map, as the list of its entries in the order of the names' bytes.
use Rattle.std.specs.Prelude.{ℕ, not, List, Option, unwrap_or}
use Rattle.std.specs.Ordering.{nat_cmp, eq_by_cmp}
use Rattle.std.specs.Cmp.Lexicographic.{slice_cmp}
use Rattle.std.specs.FinMap.{find, put}
use Rattle.std.specs.FinMap.Entries.{where_key}

-- a name and the number of its file
abbrev pub Entries : Type 0
Entries = List (List ℕ × ℕ)

-- the file of a name, if the name is there
abbrev pub file_of : List ℕ → Entries → Option ℕ
file_of name entries = find (slice_cmp nat_cmp) name entries

-- the entries with the name at the file
abbrev pub with_name : List ℕ → ℕ → Entries → Entries
with_name name file entries = put (slice_cmp nat_cmp) name file entries

-- the entries without the name
abbrev pub without_name : List ℕ → Entries → Entries
without_name name entries = where_key (slice_cmp nat_cmp) (λ other. not (eq_by_cmp (slice_cmp nat_cmp) name other)) entries

-- the entries in which the new name leads where the old one led, in place of it; where the new one led before is no matter
abbrev pub with_moved_name : List ℕ → List ℕ → Entries → Entries
with_moved_name old new entries = with_name new (unwrap_or (file_of old entries) 0) (without_name old (without_name new entries))
