-- Bytes written over those of a file, and room for them.
use Rattle.std.specs.Prelude.{◌≡◌, ℕ, ◌+◌, ◌-◌, ◌≤◌, ◌<◌, ◌/◌, ◌%◌, nat_lt, List, if◌then◌else◌, slice_index_or}
use Rattle.file_extents.specs.ChunkTable.{ChunkState, TableState, chunk_at}
use Rattle.file_extents.specs.Proved.Chunks.{KeepsPlaces}
use Rattle.file_extents.specs.ExtentsState.{byte_of}

-- new bytes over those of a function, from a position on (page of write)
abbrev pub over : (ℕ → ℕ) → ℕ → List ℕ → ℕ → ℕ
over bytes start new position = if nat_lt position start then bytes position else slice_index_or new (position - start) (bytes position)

-- no byte but zeros from a length on (own)
pub record ZeroFrom (len : ℕ) (chunks : ℕ → ChunkState) : Type 0 where
  pub zero : (p : ℕ) → len ≤ p → byte_of chunks p ≡ 0

-- there is room for so many bytes from a position on (own)
pub record HasRoom (table : TableState) (start count : ℕ) : Type 0 where
  pub low : (p : ℕ) → start ≤ p → p < start + count → (chunk_at table (p / 65536)).low ≤ p % 65536
  pub high : (p : ℕ) → start ≤ p → p < start + count → p % 65536 < (chunk_at table (p / 65536)).high

-- where there was room there is room (own)
pub record KeepsRoom (old new : TableState) : Type 0 where
  pub kept : (k : ℕ) → KeepsPlaces (chunk_at old k) (chunk_at new k)

-- new bytes stand over what was there, and room stays (own)
pub record IsOver (start : ℕ) (new : List ℕ) (old after : ℕ → ChunkState) : Type 0 where
  pub bytes : (p : ℕ) → byte_of after p ≡ over (byte_of old) start new p
  pub room : (k : ℕ) → KeepsPlaces (old k) (after k)
