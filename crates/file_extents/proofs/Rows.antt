-- Chunks of a row: those that are added without a byte, the one that is edited, and copies.
use Rattle.std.proofs.Common.{◌≡◌, ℕ, zero, suc, ◌-◌, ◌<◌, ◌∙◌, List, [], ◌∷◌, ◌++◌, false, ◌==◌, length, get_or, slice_set, refl, ap, sym, arith, inl, inr}
use Rattle.std.specs.List.{AllZip}
use Rattle.std.proofs.lemmas.Bool.{cases_lt, cases_eq}
use Rattle.std.proofs.lemmas.Bool.Decides.{nat_tests}
use Rattle.std.proofs.lemmas.List.{get_or_past, get_or_append_left, get_or-append_right, get_or-set_same, get_or-set_other}
use Rattle.std.proofs.lemmas.List.Elements.{AllZip-get_or, length_all_zip}
use Rattle.posix_model.specs.Bytes.{splice}
use Rattle.file_extents.specs.ChunkTable.{ChunkState, TableState, no_chunk, chunk_in, placed, chunk_at, byte_in}
use Rattle.file_extents.specs.Proved.Chunks.{HasPlaces, KeepsPlaces, Keeps, Edits}

no_byte : (c : ChunkState) (j i : ℕ) → c.bytes ≡ [] → byte_in (get_or (c ∷ []) j no_chunk) i ≡ 0
no_byte c zero i none = rw none refl
no_byte c (suc j) i none = refl

added_same : (row : List ChunkState) (c : ChunkState) (k : ℕ) → k < length row → chunk_in (row ++ c ∷ []) k ≡ chunk_in row k
added_same row c k below = get_or_append_left row (c ∷ []) no_chunk k below

added_byte : (row : List ChunkState) (c : ChunkState) (k i : ℕ) → c.bytes ≡ [] → byte_in (chunk_in (row ++ c ∷ []) k) i ≡ byte_in (chunk_in row k) i
added_byte row c k i none = elim (cases_lt k (length row)) [
  | inl below ↦ ap (λ x. byte_in x i) (added_same row c k below)
  | inr past ↦
      let there : chunk_in (row ++ c ∷ []) k ≡ get_or (c ∷ []) (k - length row) no_chunk = get_or-append_right row (c ∷ []) (length row) k no_chunk refl past in
      let gone : chunk_in row k ≡ no_chunk = get_or_past row k no_chunk past in
      ap (λ x. byte_in x i) there ∙ (no_byte c (k - length row) i none ∙ sym (ap (λ x. byte_in x i) gone))
]

pub kept_if_same : (x y : ChunkState) → y ≡ x → KeepsPlaces x y
kept_if_same x y same = record { low = λ i from till. rw same from; high = λ i from till. rw same till }

no_room : (x y : ChunkState) → x ≡ no_chunk → KeepsPlaces x y
no_room x y gone = let none : x.high ≡ 0 = rw gone refl in record {
  low = λ i from till. omega (arith, none, till);
  high =
      λ i from till. omega (arith, none, till);
}

added_room : (row : List ChunkState) (c : ChunkState) (k : ℕ) → KeepsPlaces (chunk_in row k) (chunk_in (row ++ c ∷ []) k)
added_room row c k = elim (cases_lt k (length row)) [
  | inl below ↦ kept_if_same (chunk_in row k) (chunk_in (row ++ c ∷ []) k) (added_same row c k below)
  | inr past ↦ no_room (chunk_in row k) (chunk_in (row ++ c ∷ []) k) (get_or_past row k no_chunk past)
]

pub added : (row : List ChunkState) (c : ChunkState) → c.bytes ≡ [] → Keeps (chunk_in row) (chunk_in (row ++ c ∷ []))
added row c none = record { bytes = λ k. record { byte = λ i. added_byte row c k i none }; room = added_room row c }

pub kept_both : (F G H : ℕ → ChunkState) → Keeps F G → Keeps G H → Keeps F H
kept_both F G H first second = record {
  bytes = λ k. record { byte = λ i. (second.bytes k).byte i ∙ (first.bytes k).byte i };
  room = λ k. record {
    low = λ i from till. (second.room k).low i ((first.room k).low i from till) ((first.room k).high i from till);
    high = λ i from till. (second.room k).high i ((first.room k).low i from till) ((first.room k).high i from till);
  };
}

-- where there is room there is a chunk
pub column_there : (row : List ChunkState) (n s end : ℕ) → HasPlaces (chunk_in row n) s end → s < end → n < length row
column_there row n s end has some = elim (cases_lt n (length row)) [
  | inl there ↦ there
  | inr past ↦ let none : (chunk_in row n).high ≡ 0 = rw (get_or_past row n no_chunk past) refl in omega (arith, none, has.high, some)
]

-- an edit of one chunk of a row
kept_if_edited : (row : List ChunkState) (n : ℕ) (c : ChunkState) (k : ℕ) → n < length row → KeepsPlaces (chunk_in row n) c →
    KeepsPlaces (chunk_in row k) (chunk_in (slice_set row n c) k)
kept_if_edited row n c k there keeps = elim (cases_eq k n) [
  | inl same ↦ rw (same, get_or-set_same row n c no_chunk there) keeps
  | inr apart ↦ kept_if_same (chunk_in row k) (chunk_in (slice_set row n c) k) (get_or-set_other row n k c no_chunk apart)
]

pub edited_row : (row : List ChunkState) (n : ℕ) (c : ChunkState) (s : ℕ) (new : List ℕ) → n < length row → c.bytes ≡ splice (chunk_in row n).bytes s new →
    KeepsPlaces (chunk_in row n) c →
    Edits s new n (chunk_in row) (chunk_in (slice_set row n c))
edited_row row n c s new there is keeps = record {
  here = ap (λ x. x.bytes) (get_or-set_same row n c no_chunk there) ∙ is;
  elsewhere = λ k apart. ap (λ x. x.bytes) (get_or-set_other row n k c no_chunk apart);
  room = λ k. kept_if_edited row n c k there keeps;
}

-- copies
pub copied_row : (xs ys : List ChunkState) → AllZip (λ x y. y.bytes ≡ x.bytes) xs ys → (k : ℕ) → (chunk_in ys k).bytes ≡ (chunk_in xs k).bytes
copied_row xs ys zip k = elim (cases_lt k (length xs)) [
  | inl below ↦ AllZip-get_or (λ x y. y.bytes ≡ x.bytes) xs ys k no_chunk no_chunk zip below
  | inr past ↦ ap (λ x. x.bytes) (get_or_past ys k no_chunk (omega (arith, past, length_all_zip (λ x y. y.bytes ≡ x.bytes) xs ys zip)) ∙
      sym (get_or_past xs k no_chunk past))
]

pub copied_table : (s t : TableState) → t.first.bytes ≡ s.first.bytes → ((k : ℕ) → (placed t.shelves k).bytes ≡ (placed s.shelves k).bytes) → (k : ℕ) →
    (chunk_at t k).bytes ≡ (chunk_at s k).bytes
copied_table s t first rest k = elim (cases_eq k 0) [
  | inl same ↦ rw same first
  | inr apart ↦
      let test : (k == 0) ≡ false = grind (arith, nat_tests) in
      rw test (rest k)
]
