-- What is done to the chunks of a file (own).
use Rattle.std.specs.Prelude.{◌≡◌, ℕ, ◌≤◌, ◌<◌, List, take, slice_index_or}
use Rattle.posix_model.specs.Bytes.{padded_to, bytes_at, splice}
use Rattle.file_extents.specs.ChunkTable.{ChunkState, byte_in}

-- count bytes from a place on, of which those past the last one are zeros (own)
abbrev pub window : List ℕ → ℕ → ℕ → List ℕ
window bytes start count = padded_to (bytes_at bytes start count) count

-- there is room from a place on up to another (own)
pub record HasPlaces (chunk : ChunkState) (start end : ℕ) : Type 0 where
  pub low : chunk.low ≤ start
  pub high : end ≤ chunk.high

-- each byte stays (own)
pub record SameBytes (old new : ChunkState) : Type 0 where
  pub byte : (i : ℕ) → byte_in new i ≡ byte_in old i

-- where there was room there is room (own)
pub record KeepsPlaces (old new : ChunkState) : Type 0 where
  pub low : (i : ℕ) → old.low ≤ i → i < old.high → new.low ≤ i
  pub high : (i : ℕ) → old.low ≤ i → i < old.high → i < new.high

-- each byte of each chunk stays, and so does each place that there is room for (own)
pub record Keeps (old new : ℕ → ChunkState) : Type 0 where
  pub bytes : (k : ℕ) → SameBytes (old k) (new k)
  pub room : (k : ℕ) → KeepsPlaces (old k) (new k)

-- new bytes stand in one chunk from a place on, the others keep theirs, and room stays (own)
pub record Edits (start : ℕ) (bytes : List ℕ) (n : ℕ) (old new : ℕ → ChunkState) : Type 0 where
  pub here : (new n).bytes ≡ splice (old n).bytes start bytes
  pub elsewhere : (k : ℕ) → (k ≡ n → ⊥) → (new k).bytes ≡ (old k).bytes
  pub room : (k : ℕ) → KeepsPlaces (old k) (new k)

-- all bytes from a place of a chunk on go (own)
pub record Cuts (n len : ℕ) (old new : ℕ → ChunkState) : Type 0 where
  pub before : (k : ℕ) → k < n → (new k).bytes ≡ (old k).bytes
  pub here : (i : ℕ) → byte_in (new n) i ≡ slice_index_or (take len (old n).bytes) i 0
  pub after : (k i : ℕ) → n < k → byte_in (new k) i ≡ 0
