-- The bytes after a write and after an ftruncate, byte by byte.
use Rattle.std.proofs.Common.{◌≡◌, ℕ, ◌+◌, ◌-◌, ◌<◌, ◌≤◌, max, min, List, ◌++◌, length, get_or, arith}
use Rattle.std.proofs.lemmas.Grind.{common_steps}
use Rattle.posix_model.specs.Bytes.{splice, resized, bytes_at}
use Rattle.plain_world.specs.Proved.FileLaws.{WriteSplices, FtruncateResizes, IsRead}

size : (bytes : List ℕ) (start : ℕ) (new : List ℕ) → length (splice bytes start new) ≡ max (length bytes) (start + length new)
size bytes start new = grind (arith, common_steps)

inside : (bytes : List ℕ) (start : ℕ) (new : List ℕ) (i : ℕ) → start ≤ i → i < start + length new → get_or (splice bytes start new) i 0 ≡ get_or new
    (i - start) 0
inside bytes start new i low high = grind (arith, common_steps)

before : (bytes : List ℕ) (start : ℕ) (new : List ℕ) (i : ℕ) → i < length bytes → i < start → get_or (splice bytes start new) i 0 ≡ get_or bytes i 0
before bytes start new i here low = grind (arith, common_steps)

past : (bytes : List ℕ) (start : ℕ) (new : List ℕ) (i : ℕ) → i < length bytes → start + length new ≤ i → get_or (splice bytes start new) i 0 ≡ get_or bytes i 0
past bytes start new i here high = grind (arith, common_steps)

gap : (bytes : List ℕ) (start : ℕ) (new : List ℕ) (i : ℕ) → length bytes ≤ i → i < start → get_or (splice bytes start new) i 0 ≡ 0
gap bytes start new i long low = grind (arith, common_steps)

pub write_splices : WriteSplices
write_splices bytes start new = record {
  size = size bytes start new;
  inside = inside bytes start new;
  before = before bytes start new;
  past = past bytes start new;
  gap = gap bytes start new;
}

resized_size : (bytes : List ℕ) (len : ℕ) → length (resized bytes len) ≡ len
resized_size bytes len = grind (arith, common_steps)

resized_first : (bytes : List ℕ) (len i : ℕ) → i < len → i < length bytes → get_or (resized bytes len) i 0 ≡ get_or bytes i 0
resized_first bytes len i below there = grind (arith, common_steps)

resized_zeros : (bytes : List ℕ) (len i : ℕ) → length bytes ≤ i → i < len → get_or (resized bytes len) i 0 ≡ 0
resized_zeros bytes len i past below = grind (arith, common_steps)

pub ftruncate_resizes : FtruncateResizes
ftruncate_resizes bytes len = record { size = resized_size bytes len; first = resized_first bytes len; zeros = resized_zeros bytes len }

-- bytes that are written at the end
pub added_at_end : (there new : List ℕ) → splice there (length there) new ≡ there ++ new
added_at_end there new = grind (arith, common_steps)

read_size : (bytes : List ℕ) (start count : ℕ) → length (bytes_at bytes start count) ≡ min count (length bytes - start)
read_size bytes start count = grind (arith, common_steps)

read_each : (bytes : List ℕ) (start count i : ℕ) → i < length (bytes_at bytes start count) → get_or (bytes_at bytes start count) i 0 ≡ get_or bytes
    (start + i) 0
read_each bytes start count i below = grind (arith, common_steps)

-- the bytes that a read gives
pub is_read : (bytes : List ℕ) (start count : ℕ) → IsRead bytes start count (bytes_at bytes start count)
is_read bytes start count = record { size = read_size bytes start count; each = read_each bytes start count }
