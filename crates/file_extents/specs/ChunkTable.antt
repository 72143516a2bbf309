-- Chunks of a file by number, of which those that are not there have no byte.
use Rattle.std.specs.Prelude.{ℕ, ◌==◌, ◌/◌, ◌%◌, List, [], if◌then◌else◌, slice_index_or}

-- the bytes of a chunk, and the place where its room begins and the one where it ends (own)
pub record ChunkState : Type 0 where
  pub bytes : List ℕ
  pub low : ℕ
  pub high : ℕ

-- a chunk that is not there (own)
abbrev pub no_chunk : ChunkState
no_chunk = record { bytes = []; low = 0; high = 0 }

-- the byte at a place of a chunk: zero where none is kept (own)
abbrev pub byte_in : ChunkState → ℕ → ℕ
byte_in chunk place = slice_index_or chunk.bytes place 0

-- the chunk of a row at a column (own)
abbrev pub chunk_in : List ChunkState → ℕ → ChunkState
chunk_in row column = slice_index_or row column no_chunk

-- the row of a shelf at an index (own)
abbrev pub row_in : List (List ChunkState) → ℕ → List ChunkState
row_in rows index = slice_index_or rows index []

-- the chunk of a shelf at a place (own)
abbrev pub shelved : List (List ChunkState) → ℕ → ChunkState
shelved rows place = chunk_in (row_in rows (place / 256)) (place % 256)

-- the shelf at an index (own)
abbrev pub shelf_in : List (List (List ChunkState)) → ℕ → List (List ChunkState)
shelf_in shelves index = slice_index_or shelves index []

-- the first chunk apart, and shelves with all others (own)
pub record TableState : Type 0 where
  pub first : ChunkState
  pub shelves : List (List (List ChunkState))

-- the chunk of a number on the shelves (own)
abbrev pub placed : List (List (List ChunkState)) → ℕ → ChunkState
placed shelves number = shelved (shelf_in shelves (number / 65536)) (number % 65536)

-- the chunk of a number (own)
abbrev pub chunk_at : TableState → ℕ → ChunkState
chunk_at table number = if number == 0 then table.first else placed table.shelves number
