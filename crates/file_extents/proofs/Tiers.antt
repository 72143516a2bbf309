-- A list of nodes that have chunks: the rows of a shelf, and the shelves of a table. The number of a chunk leads to its node, and to its place there.
use Rattle.std.proofs.Common.{◌≡◌, ◌≢◌, ℕ, ◌<◌, ◌/◌, ◌%◌, ◌∙◌, List, [], length, get_or, slice_set, refl, ap, sym, arith, inl, inr}
use Rattle.std.specs.List.{AllZip}
use Rattle.std.proofs.lemmas.Bool.{cases_lt, cases_eq}
use Rattle.std.proofs.lemmas.List.{get_or_past, get_or-set_same, get_or-set_other}
use Rattle.std.proofs.lemmas.List.Elements.{AllZip-get_or, length_all_zip}
use Rattle.posix_model.specs.Bytes.{splice}
use Rattle.file_extents.specs.ChunkTable.{ChunkState, chunk_in, row_in, shelved, shelf_in, placed}
use Rattle.file_extents.specs.Proved.Chunks.{HasPlaces, KeepsPlaces, Edits}
use Rattle.file_extents.proofs.Rows.{kept_if_same}

-- with the node that is not there, the chunk of a node at a place, and the two ways from a number
module _ {N : Type 0} (none : N) (at : N → ℕ → ChunkState) (node place : ℕ → ℕ) where
  -- the chunk of a number
  abbrev pub tier : List N → ℕ → ChunkState
  tier xs k = at (get_or xs (node k) none) (place k)

  -- where there is room there is a node
  pub node_there : (xs : List N) (n s end : ℕ) → ((k : ℕ) → (at none k).high ≡ 0) → HasPlaces (tier xs n) s end → s < end → node n < length xs
  node_there xs n s end empty has some = elim (cases_lt (node n) (length xs)) [
    | inl there ↦ there
    | inr past ↦ let gone : (tier xs n).high ≡ 0 = ap (λ x. (at x (place n)).high) (get_or_past xs (node n) none past) ∙ empty (place n) in
        omega (arith, gone, has.high, some)
  ]

  -- a node that was changed, and the others
  set_there : (xs : List N) (n k : ℕ) (x : N) → node n < length xs → node k ≡ node n → tier (slice_set xs (node n) x) k ≡ at x (place k)
  set_there xs n k x there same = rw same (ap (λ y. at y (place k)) (get_or-set_same xs (node n) x none there))

  set_apart : (xs : List N) (n k : ℕ) (x : N) → (node k ≢ node n) → tier (slice_set xs (node n) x) k ≡ tier xs k
  set_apart xs n k x apart = ap (λ y. at y (place k)) (get_or-set_other xs (node n) (node k) x none apart)

  was_there : (xs : List N) (n k : ℕ) → node k ≡ node n → tier xs k ≡ at (get_or xs (node n) none) (place k)
  was_there xs n k same = ap (λ i. at (get_or xs i none) (place k)) same

  room_kept : (xs : List N) (n : ℕ) (x : N) → node n < length xs → ((k : ℕ) → KeepsPlaces (at (get_or xs (node n) none) k) (at x k)) → (k : ℕ) →
      KeepsPlaces (tier xs k) (tier (slice_set xs (node n) x) k)
  room_kept xs n x there keeps k = elim (cases_eq (node k) (node n)) [
    | inl same ↦ rw (was_there xs n k same, set_there xs n k x there same) (keeps (place k))
    | inr other ↦ kept_if_same (tier xs k) (tier (slice_set xs (node n) x) k) (set_apart xs n k x other)
  ]

  pub edited_tier : (xs : List N) (n : ℕ) (x : N) (s : ℕ) (new : List ℕ) → ((k : ℕ) → node k ≡ node n → place k ≡ place n → k ≡ n) → node n < length xs →
      Edits s new (place n) (at (get_or xs (node n) none)) (at x) → Edits s new n (tier xs) (tier (slice_set xs (node n) x))
  edited_tier xs n x s new one there edits = record { here = here; elsewhere = elsewhere; room = room_kept xs n x there edits.room }
    where
      here : (tier (slice_set xs (node n) x) n).bytes ≡ splice (tier xs n).bytes s new
      here = ap (λ c. c.bytes) (set_there xs n n x there refl) ∙ edits.here

      elsewhere : (k : ℕ) → (k ≢ n) → (tier (slice_set xs (node n) x) k).bytes ≡ (tier xs k).bytes
      elsewhere k apart = elim (cases_eq (node k) (node n)) [
        | inl same ↦ ap (λ c. c.bytes) (set_there xs n k x there same) ∙
            (edits.elsewhere (place k) (λ eq. apart (one k same eq)) ∙ ap (λ c. c.bytes) (sym (was_there xs n k same)))
        | inr other ↦ ap (λ c. c.bytes) (set_apart xs n k x other)
      ]

  -- a copy of each node
  pub copied_tier : (xs ys : List N) → AllZip (λ x y. (k : ℕ) → (at y k).bytes ≡ (at x k).bytes) xs ys → (k : ℕ) → (tier ys k).bytes ≡ (tier xs k).bytes
  copied_tier xs ys zip k = elim (cases_lt (node k) (length xs)) [
    | inl below ↦ AllZip-get_or (λ x y. (j : ℕ) → (at y j).bytes ≡ (at x j).bytes) xs ys (node k) none none zip below (place k)
    | inr past ↦ ap (λ x. (at x (place k)).bytes) (get_or_past ys (node k) none
        (omega (arith, past, length_all_zip (λ x y. (j : ℕ) → (at y j).bytes ≡ (at x j).bytes) xs ys zip)) ∙ sym (get_or_past xs (node k) none past))
  ]

-- rows of a shelf
one_column : (n k : ℕ) → k / 256 ≡ n / 256 → k % 256 ≡ n % 256 → k ≡ n
one_column n k row column = omega (arith, row, column)

-- shelves of a table
one_place : (n k : ℕ) → k / 65536 ≡ n / 65536 → k % 65536 ≡ n % 65536 → k ≡ n
one_place n k shelf place = omega (arith, shelf, place)

pub row_there : (rows : List (List ChunkState)) (n s end : ℕ) → HasPlaces (shelved rows n) s end → s < end → n / 256 < length rows
row_there rows n s end has some = node_there [] chunk_in (λ k. k / 256) (λ k. k % 256) rows n s end (λ k. refl) has some

pub shelf_there : (shelves : List (List (List ChunkState))) (n s end : ℕ) → HasPlaces (placed shelves n) s end → s < end → n / 65536 < length shelves
shelf_there shelves n s end has some = node_there [] shelved (λ k. k / 65536) (λ k. k % 65536) shelves n s end (λ k. refl) has some

pub edited_rows : (rows : List (List ChunkState)) (n : ℕ) (row : List ChunkState) (s : ℕ) (new : List ℕ) → n / 256 < length rows →
    Edits s new (n % 256) (chunk_in (row_in rows (n / 256))) (chunk_in row) → Edits s new n (shelved rows) (shelved (slice_set rows (n / 256) row))
edited_rows rows n row s new there edits = edited_tier [] chunk_in (λ k. k / 256) (λ k. k % 256) rows n row s new (one_column n) there edits

pub edited_shelves : (shelves : List (List (List ChunkState))) (n : ℕ) (shelf : List (List ChunkState)) (s : ℕ) (new : List ℕ) → n / 65536 < length shelves →
    Edits s new (n % 65536) (shelved (shelf_in shelves (n / 65536))) (shelved shelf) →
    Edits s new n (placed shelves) (placed (slice_set shelves (n / 65536) shelf))
edited_shelves shelves n shelf s new there edits = edited_tier [] shelved (λ k. k / 65536) (λ k. k % 65536) shelves n shelf s new (one_place n) there edits

pub copied_rows : (xs ys : List (List ChunkState)) → AllZip (λ x y. (k : ℕ) → (chunk_in y k).bytes ≡ (chunk_in x k).bytes) xs ys → (k : ℕ) →
    (shelved ys k).bytes ≡ (shelved xs k).bytes
copied_rows xs ys zip k = copied_tier [] chunk_in (λ k. k / 256) (λ k. k % 256) xs ys zip k

pub copied_shelves : (xs ys : List (List (List ChunkState))) → AllZip (λ x y. (k : ℕ) → (shelved y k).bytes ≡ (shelved x k).bytes) xs ys → (k : ℕ) →
    (placed ys k).bytes ≡ (placed xs k).bytes
copied_shelves xs ys zip k = copied_tier [] shelved (λ k. k / 65536) (λ k. k % 65536) xs ys zip k
