-- What chunks are as the bytes of a file.
use Rattle.std.specs.Prelude.{ℕ, ◌/◌, ◌%◌, List, map}
use Rattle.std.specs.List.{range_with_len}
use Rattle.file_extents.specs.ChunkTable.{ChunkState, TableState, byte_in}

-- the byte at a position: zero where none is kept (page of write: a gap reads as zeros)
abbrev pub byte_of : (ℕ → ChunkState) → ℕ → ℕ
byte_of chunks position = byte_in (chunks (position / 65536)) (position % 65536)

-- so many bytes from a position on (own)
abbrev pub bytes_from : (ℕ → ChunkState) → ℕ → ℕ → List ℕ
bytes_from chunks start count = map (byte_of chunks) (range_with_len start count)

-- the bytes up to a length (own)
abbrev pub contents : ℕ → (ℕ → ChunkState) → List ℕ
contents len chunks = bytes_from chunks 0 len

-- the bytes of a file, and its chunks, which only HasRoom and KeepsRoom read (own)
pub record ExtentsState : Type 0 where
  pub bytes : List ℕ
  pub table : TableState
